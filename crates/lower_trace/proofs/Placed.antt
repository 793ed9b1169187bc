-- A machine of byte code by its parts, and its next step.
use Rattle.std.proofs.Common.{◌≡◌, ℕ, ◌+◌, true, false, List, [], ◌∷◌, ◌++◌, Option, refl, sym, ap, ◌∙◌, subst}
use Rattle.pic_world.specs.World.{World, arrived, is_due}
use Rattle.core_code.specs.Bytes.{Held, Memory}
use Rattle.core_code.specs.Cost.{step_most, step_least, task_most, least_task, cost_of, leaving, least_of}
use Rattle.core_code.specs.Machine.{Setting, Machine, Task, Do, Put, PutBit, PutBack, Join, LoadFrom, StoreTo, Reading, Over, Waiting, core_step, core_step_at, act, operate, enter, tasks}
use Rattle.core_code.specs.Tree.{Tree, list_of, trees_of}
use Rattle.lower_trace.proofs.CodeLeft.{todo, plain, plain_behind}

-- The machine has this copy, this code and stack without what stands before operations, and this memory, and with the
-- arrivals this world.
pub record Placed (g : Setting) (n : ℕ) (a : Option ℕ) (left : List Task) (behind : List Waiting) (m : Memory) (w : World Held) (c : Machine) : Type 0 where
  pub copy : c.copy ≡ n
  pub passing : c.passing ≡ a
  pub code : plain c.code ≡ left
  pub stack : plain_behind c.stack ≡ behind
  pub memory : c.memory ≡ m
  pub world : arrived g.outside c.world ≡ w

-- ---- what stands in front of the code
pub record Front (c : List Task) (t : Tree) (r : List Task) : Type 0 where
  pub before : List Tree
  pub rest : List Task
  pub is : c ≡ Do before t ∷ rest
  pub behind : plain rest ≡ r

abbrev head_or : List Task → Task
head_or [] = Over
head_or (x ∷ c) = x

abbrev tail_or : List Task → List Task
tail_or [] = []
tail_or (x ∷ c) = c

abbrev tree_or : Tree → Task → Tree
tree_or t (Do before u) = u
tree_or t _ = t

pub front : (c : List Task) (t : Tree) (r : List Task) → plain c ≡ Do [] t ∷ r → Front c t r
front [] t r e = absurd (cc)
front (Do before u ∷ c) t r e = let q : u ≡ t = ap (λ x. tree_or t (head_or x)) e in record { before = before; rest = c; is = ap (λ x. Do before x ∷ c) q; behind = ap tail_or e }
front (Put to held ∷ c) t r e = absurd (cc)
front (PutBit to value ∷ c) t r e = absurd (cc)
front (PutBack register value ∷ c) t r e = absurd (cc)
front (Join ∷ c) t r e = absurd (cc)
front (LoadFrom to object offset n ∷ c) t r e = absurd (cc)
front (StoreTo object offset from n ∷ c) t r e = absurd (cc)
front (Reading bytes ∷ c) t r e = absurd (cc)
front (Over ∷ c) t r e = absurd (cc)

-- a task that is no operation
abbrev pub IsOther : Task → Type 0
IsOther (Do before t) = ⊥
IsOther _ = Unit {0}

pub record Other (c : List Task) (x : Task) (r : List Task) : Type 0 where
  pub rest : List Task
  pub is : c ≡ x ∷ rest
  pub behind : plain rest ≡ r

pub other : (c : List Task) (x : Task) (r : List Task) → IsOther x → plain c ≡ x ∷ r → Other c x r
other [] x r o e = absurd (cc)
other (Do before u ∷ c) x r o e = absurd (subst IsOther (sym (ap head_or e)) o)
other (Put to held ∷ c) x r o e = record { rest = c; is = ap (λ y. y ∷ c) (ap head_or e); behind = ap tail_or e }
other (PutBit to value ∷ c) x r o e = record { rest = c; is = ap (λ y. y ∷ c) (ap head_or e); behind = ap tail_or e }
other (PutBack register value ∷ c) x r o e = record { rest = c; is = ap (λ y. y ∷ c) (ap head_or e); behind = ap tail_or e }
other (Join ∷ c) x r o e = record { rest = c; is = ap (λ y. y ∷ c) (ap head_or e); behind = ap tail_or e }
other (LoadFrom to object offset n ∷ c) x r o e = record { rest = c; is = ap (λ y. y ∷ c) (ap head_or e); behind = ap tail_or e }
other (StoreTo object offset from n ∷ c) x r o e = record { rest = c; is = ap (λ y. y ∷ c) (ap head_or e); behind = ap tail_or e }
other (Reading bytes ∷ c) x r o e = record { rest = c; is = ap (λ y. y ∷ c) (ap head_or e); behind = ap tail_or e }
other (Over ∷ c) x r o e = record { rest = c; is = ap (λ y. y ∷ c) (ap head_or e); behind = ap tail_or e }

pub no_code : (c : List Task) → plain c ≡ [] → c ≡ []
no_code [] e = refl
no_code (Do before u ∷ c) e = absurd (cc)
no_code (Put to held ∷ c) e = absurd (cc)
no_code (PutBit to value ∷ c) e = absurd (cc)
no_code (PutBack register value ∷ c) e = absurd (cc)
no_code (Join ∷ c) e = absurd (cc)
no_code (LoadFrom to object offset n ∷ c) e = absurd (cc)
no_code (StoreTo object offset from n ∷ c) e = absurd (cc)
no_code (Reading bytes ∷ c) e = absurd (cc)
no_code (Over ∷ c) e = absurd (cc)

-- ---- operations as tasks
pub plain_tasks : (before ts : List Tree) (c : List Task) → plain (tasks before ts c) ≡ todo ts (plain c)
plain_tasks before [] c = refl
plain_tasks before (t ∷ ts) c = ap (λ x. Do [] t ∷ x) (plain_tasks (before ++ t ∷ []) ts c)

pub list_again : (ts : List Tree) → list_of (trees_of ts) ≡ ts
list_again [] = refl
list_again (t ∷ ts) = ap (λ x. t ∷ x) (list_again ts)

pub todo_join : (ts us : List Tree) (c : List Task) → todo (ts ++ us) c ≡ todo ts (todo us c)
todo_join [] us c = refl
todo_join (t ∷ ts) us c = ap (λ x. Do [] t ∷ x) (todo_join ts us c)

-- ---- the next step
module _ (g : Setting) (n : ℕ) (a : Option ℕ) (left : List Task) (behind : List Waiting) (m : Memory) (w : World Held) (c : Machine) (p : Placed g n a left behind m w c) where
  now : (x : List Task) → c.code ≡ x → core_step g c ≡ core_step_at g x n a c.stack m w
  unfolding core_step
  now x e =
      ap (λ y. core_step_at g y c.copy c.passing c.stack c.memory (arrived g.outside c.world)) e
      ∙ ap (λ y. core_step_at g x y c.passing c.stack c.memory (arrived g.outside c.world)) p.copy
      ∙ ap (λ y. core_step_at g x n y c.stack c.memory (arrived g.outside c.world)) p.passing
      ∙ ap (λ y. core_step_at g x n a c.stack y (arrived g.outside c.world)) p.memory
      ∙ ap (λ y. core_step_at g x n a c.stack m y) p.world

  acts : (x : List Task) → c.code ≡ x → is_due w ≡ false → core_step g c ≡ act g x n a c.stack m w
  acts x e due = now x e ∙ rw due refl

  pub enters : is_due w ≡ true → core_step g c ≡ enter g.program g.program.handler c.code n a c.stack m w
  enters due = now c.code refl ∙ rw due refl

  most_now : (x : List Task) → c.code ≡ x → is_due w ≡ false → step_most g c ≡ task_most x c.stack
  unfolding step_most
  most_now x e due = let d : is_due (arrived g.outside c.world) ≡ false = ap is_due p.world ∙ due in rw d (ap (λ y. task_most y c.stack) e)

  least_now : (x : List Task) → c.code ≡ x → is_due w ≡ false → step_least g c ≡ least_task g.program x c.stack
  unfolding step_least
  least_now x e due = let d : is_due (arrived g.outside c.world) ≡ false = ap is_due p.world ∙ due in rw d (ap (λ y. least_task g.program y c.stack) e)

  pub most_due : is_due w ≡ true → step_most g c ≡ 100
  unfolding step_most
  most_due due = let d : is_due (arrived g.outside c.world) ≡ true = ap is_due p.world ∙ due in rw d refl

  pub least_due : is_due w ≡ true → step_least g c ≡ 1
  unfolding step_least
  least_due due = let d : is_due (arrived g.outside c.world) ≡ true = ap is_due p.world ∙ due in rw d refl

  -- an operation stands in front
  pub operates : (t : Tree) (r : List Task) (f : Front c.code t r) → is_due w ≡ false → core_step g c ≡ operate g f.before t f.rest n a c.stack m w
  unfolding act
  operates t r f due = acts (Do f.before t ∷ f.rest) f.is due

  pub most_operates : (t : Tree) (r : List Task) (f : Front c.code t r) → is_due w ≡ false → step_most g c ≡ cost_of f.before t + leaving t c.stack
  most_operates t r f due = most_now (Do f.before t ∷ f.rest) f.is due

  pub least_operates : (t : Tree) (r : List Task) (f : Front c.code t r) → is_due w ≡ false → step_least g c ≡ least_of g.program t c.stack
  least_operates t r f due = least_now (Do f.before t ∷ f.rest) f.is due

  -- another task does
  pub does : (x : Task) (r : List Task) (f : Other c.code x r) → is_due w ≡ false → core_step g c ≡ act g (x ∷ f.rest) n a c.stack m w
  does x r f due = acts (x ∷ f.rest) f.is due

  pub most_does : (x : Task) (r : List Task) (f : Other c.code x r) → is_due w ≡ false → step_most g c ≡ task_most (x ∷ f.rest) c.stack
  most_does x r f due = most_now (x ∷ f.rest) f.is due

  pub least_does : (x : Task) (r : List Task) (f : Other c.code x r) → is_due w ≡ false → step_least g c ≡ least_task g.program (x ∷ f.rest) c.stack
  least_does x r f due = least_now (x ∷ f.rest) f.is due

  -- no code is left
  pub ends : left ≡ [] → is_due w ≡ false → core_step g c ≡ act g [] n a c.stack m w
  ends e due = acts [] (no_code c.code (p.code ∙ e)) due

  pub most_ends : left ≡ [] → is_due w ≡ false → step_most g c ≡ task_most [] c.stack
  most_ends e due = most_now [] (no_code c.code (p.code ∙ e)) due

  pub least_ends : left ≡ [] → is_due w ≡ false → step_least g c ≡ least_task g.program [] c.stack
  least_ends e due = least_now [] (no_code c.code (p.code ∙ e)) due
