-- The machine by positions, as sym_code's Machine has it: an instruction is one step, a skip goes past labels and the next
-- word, and a jump goes to the first place of its label in the block.
use Rattle.std.specs.Prelude.{◌≡◌, ℕ, zero, suc, ◌+◌, ◌≤◌, nat_eq, if◌then◌else◌, List, [], ◌∷◌, drop, Option, Some, None, option_map, slice_get}
use Rattle.sym_code.specs.Registers.{Registers}
use Rattle.select_trace.specs.Run.{Sym, Goto, Label, Return, Mode, Going, Skipping, Seeking, Returned, Machine, execute}
use Rattle.sym_code.specs.Effect.{Memory}

pub record Place : Type 0 where
  pub at : ℕ
  pub registers : Registers
  pub memory : Memory

pub data Next : Type 0 where
  Goes : Place → Next
  Back : Next
  Stuck : Next

abbrev pub past_word : List Sym → Option ℕ
past_word [] = None
past_word (Label l ∷ rest) = option_map (λ n. n + 1) (past_word rest)
past_word (_ ∷ rest) = Some 1

abbrev pub label_from : List Sym → ℕ → ℕ → Option ℕ
label_from [] label n = None
label_from (Label l ∷ rest) label n = if nat_eq l label then Some n else label_from rest label (n + 1)
label_from (_ ∷ rest) label n = label_from rest label (n + 1)

abbrev pub place : ℕ → Machine → Place
place at t = record { at = at; registers = t.registers; memory = t.memory }

abbrev pub goes_if : Option ℕ → Machine → Next
goes_if None t = Stuck
goes_if (Some n) t = Goes (place n t)

-- where an instruction at a place leads, by what it does
abbrev pub leads : List Sym → ℕ → Mode → Machine → Next
leads code at Going t = Goes (place (at + 1) t)
leads code at Skipping t = goes_if (option_map (λ n. at + 1 + n) (past_word (drop (at + 1) code))) t
leads code at (Seeking l) t = goes_if (label_from code l 0) t
leads code at Returned t = Back

abbrev pub acts : List Sym → Place → Option Sym → Next
acts code p None = Stuck
acts code p (Some i) = leads code p.at (execute i p.registers p.memory).mode (execute i p.registers p.memory)

abbrev pub step_at : List Sym → Place → Next
step_at code p = acts code p (slice_get code p.at)

-- what is paid at a place by these prices; a label costs nothing
abbrev pub due : (ℕ → ℕ) → ℕ → Option Sym → ℕ
due price i None = 0
due price i (Some (Label l)) = 0
due price i (Some _) = price i

-- so many instructions from a place on together
abbrev pub dues : (ℕ → ℕ) → ℕ → List Sym → ℕ
dues price i [] = 0
dues price i (x ∷ xs) = due price i (Some x) + dues price (i + 1) xs

-- where a return stands it is still to be paid
abbrev pub owed : (ℕ → ℕ) → ℕ → Mode → ℕ
owed price i Returned = price i
owed price i _ = 0

-- exactly n steps lead from p to q, and cost so much
abbrev pub Path : (ℕ → ℕ) → List Sym → ℕ → ℕ → Place → Place → Type 0
Path price code zero cost p q = (cost ≡ 0) × (p ≡ q)
Path price code (suc n) cost p q = (s : Place) × (more : ℕ) × (step_at code p ≡ Goes s) × (cost ≡ due price p.at (slice_get code p.at) + more) × Path price code n more s q

-- how often a label stands in code
abbrev pub times : ℕ → List Sym → ℕ
times l [] = 0
times l (Label n ∷ rest) = if nat_eq n l then suc (times l rest) else times l rest
times l (_ ∷ rest) = times l rest

-- each jump's label stands there
abbrev pub AllLead : List Sym → List Sym → Type 0
AllLead code [] = Unit {0}
AllLead code (Goto l ∷ rest) = (k : ℕ) × (label_from code l 0 ≡ Some k) × AllLead code rest
AllLead code (_ ∷ rest) = AllLead code rest

-- Where the machine by positions stands, when a run along the list has come to place i, behind which rest stands.
abbrev pub AtPlace : List Sym → Mode → ℕ → List Sym → Place → Type 0
AtPlace code Going i rest p = p.at ≡ i
AtPlace code Skipping i rest p = (n : ℕ) × (past_word rest ≡ Some n) × (p.at ≡ i + n)
AtPlace code (Seeking l) i rest p = label_from code l 0 ≡ Some p.at
AtPlace code Returned i rest p = slice_get code p.at ≡ Some Return

pub record Stands (code : List Sym) (i : ℕ) (rest : List Sym) (t : Machine) (p : Place) : Type 0 where
  pub registers : p.registers ≡ t.registers
  pub memory : p.memory ≡ t.memory
  pub at : AtPlace code t.mode i rest p

-- The machine by positions goes on, for so much at most, to where the run has come to.
pub record GoesAlong (price : ℕ → ℕ) (code : List Sym) (p : Place) (most : ℕ) (i : ℕ) (rest : List Sym) (t : Machine) : Type 0 where
  pub steps : ℕ
  pub cost : ℕ
  pub out : Place
  pub few : cost + owed price out.at t.mode ≤ most
  pub path : Path price code steps cost p out
  pub stands : Stands code i rest t out

-- steps lead there for so much at most
pub record Walks (price : ℕ → ℕ) (code : List Sym) (p : Place) (most : ℕ) (q : Place) : Type 0 where
  pub steps : ℕ
  pub cost : ℕ
  pub few : cost ≤ most
  pub path : Path price code steps cost p q

-- no label stands twice, and each jump's label stands there
pub record IsSound (code : List Sym) : Type 0 where
  pub once : (n : ℕ) → times n code ≤ 1
  pub leads : AllLead code code

-- Steps lead to a return, and cost together with it so much at most.
pub record Returns (price : ℕ → ℕ) (code : List Sym) (p : Place) (most : ℕ) (q : Place) : Type 0 where
  pub steps : ℕ
  pub cost : ℕ
  pub few : cost + price q.at ≤ most
  pub path : Path price code steps cost p q
  pub back : step_at code q ≡ Back

-- how often code jumps to a label
abbrev pub jumps : ℕ → List Sym → ℕ
jumps l [] = 0
jumps l (Goto n ∷ rest) = if nat_eq n l then suc (jumps l rest) else jumps l rest
jumps l (_ ∷ rest) = jumps l rest
