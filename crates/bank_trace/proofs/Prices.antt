-- How many selects stand before an instruction: those behind the instruction before it, and those from a place on.
use Rattle.std.proofs.Common.{Option, Some, None, ◌≡◌, ℕ, zero, suc, ◌+◌, Bool, true, if◌then◌else◌, List, [], ◌∷◌, slice_get, refl, sym, ap, ◌∙◌, subst, arith}
use Rattle.sym_code.specs.Cost.{time_of, time_at}
use Rattle.sym_code.specs.Programs.{is_word}
use Rattle.sym_code.specs.Selects.{is_select}
use Rattle.sym_code.specs.declared.code.BankBit.TheVariants.{Rp0, Rp1}
use Rattle.sym_code.specs.declared.code.Sym.{Sym}
use Rattle.sym_code.specs.declared.code.Sym.TheVariants as syms
use Rattle.bank_page.specs.Kinds.{is_label}
use Rattle.bank_page.specs.Links.{price_from}
use Rattle.bank_trace.proofs.Lists.{plain_at, select_at, never, settle, settle_zero, mark}

-- ---- selects behind the instruction before
abbrev pub more_selects : ℕ → Sym → ℕ
more_selects n s = if is_select s then n + 1 else (if is_label s then n else 0)

-- how many stand before an index, where n stand before the list
abbrev pub selects_before : ℕ → List Sym → ℕ → ℕ
selects_before n [] j = n
selects_before n (s ∷ list) zero = n
selects_before n (s ∷ list) (suc j) = selects_before (more_selects n s) list j

before_zero : (n : ℕ) (list : List Sym) → selects_before n list 0 ≡ n
before_zero n [] = refl
before_zero n (s ∷ list) = refl

price_select : (n : ℕ) (s : Sym) (list : List Sym) (k : ℕ) → is_select s ≡ true → price_from n (s ∷ list) k ≡ price_from (n + 1) list k
price_select n s list zero is = ap (λ (b : Bool). if b then price_from (n + 1) list zero else (if is_label s then 1 else time_of s + n)) is
price_select n s list (suc k) is = ap (λ (b : Bool). if b then price_from (n + 1) list (suc k) else price_from (if is_label s then n else 0) list k) is

-- an instruction's price is its time and their number
pub price_is : (n : ℕ) (list : List Sym) (j : ℕ) → plain_at (slice_get list j) ≡ true → price_from n list (mark list j) ≡ time_at (slice_get list j) + selects_before n list j
price_is n [] j e = never e
price_is n (syms.Label label ∷ list) zero e = never e
price_is n (syms.SelectBank Rp0 on ∷ list) zero e = never e
price_is n (syms.SelectBank Rp1 on ∷ list) zero e = never e
price_is n (syms.SelectPage bit target ∷ list) zero e = never e
price_is n (s ∷ list) zero e = refl
price_is n (syms.SelectBank Rp0 on ∷ list) (suc j) e = price_select n (syms.SelectBank Rp0 on) list (mark list j) refl ∙ price_is (n + 1) list j e
price_is n (syms.SelectBank Rp1 on ∷ list) (suc j) e = price_select n (syms.SelectBank Rp1 on) list (mark list j) refl ∙ price_is (n + 1) list j e
price_is n (syms.SelectPage bit target ∷ list) (suc j) e = price_select n (syms.SelectPage bit target) list (mark list j) refl ∙ price_is (n + 1) list j e
price_is n (syms.Label label ∷ list) (suc j) e = price_is n list j e
price_is n (s ∷ list) (suc j) e = price_is 0 list j e

pub before_select : (n : ℕ) (list : List Sym) (j : ℕ) → select_at (slice_get list j) ≡ true → selects_before n list (suc j) ≡ suc (selects_before n list j)
before_select n [] j e = never e
before_select n (s ∷ list) zero e = before_zero (more_selects n s) list ∙ (ap (λ (b : Bool). if b then n + 1 else (if is_label s then n else 0)) e ∙ omega arith)
before_select n (s ∷ list) (suc j) e = before_select (more_selects n s) list j e

pub before_settle : (n : ℕ) (list : List Sym) (j : ℕ) → selects_before n list (settle list j) ≡ selects_before n list j
before_settle n [] j = refl
before_settle n (syms.Label label ∷ list) zero = subst (λ k. selects_before n list k ≡ selects_before n list 0) (settle_zero list) (before_settle n list zero) ∙ before_zero n list
before_settle n (s ∷ list) zero = refl
before_settle n (s ∷ list) (suc j) = before_settle (more_selects n s) list j

-- ---- selects from a place on
abbrev pub selects_in_front : List Sym → ℕ
selects_in_front [] = 0
selects_in_front (s ∷ list) = if is_select s then suc (selects_in_front list) else (if is_label s then selects_in_front list else 0)

abbrev pub selects_ahead : List Sym → ℕ → ℕ
selects_ahead [] j = 0
selects_ahead (s ∷ list) zero = selects_in_front (s ∷ list)
selects_ahead (s ∷ list) (suc j) = selects_ahead list j

ahead_zero : (list : List Sym) → selects_ahead list 0 ≡ selects_in_front list
ahead_zero [] = refl
ahead_zero (s ∷ list) = refl

pub ahead_select : (list : List Sym) (j : ℕ) → select_at (slice_get list j) ≡ true → selects_ahead list j ≡ suc (selects_ahead list (suc j))
ahead_select [] j e = never e
ahead_select (s ∷ list) zero e = ap (λ (b : Bool). if b then suc (selects_in_front list) else (if is_label s then selects_in_front list else 0)) e ∙ ap suc (sym (ahead_zero list))
ahead_select (s ∷ list) (suc j) e = ahead_select list j e

pub ahead_settle : (list : List Sym) (j : ℕ) → selects_ahead list (settle list j) ≡ selects_ahead list j
ahead_settle [] j = refl
ahead_settle (syms.Label label ∷ list) zero = subst (λ k. selects_ahead list k ≡ selects_ahead list 0) (settle_zero list) (ahead_settle list zero) ∙ ahead_zero list
ahead_settle (s ∷ list) zero = refl
ahead_settle (s ∷ list) (suc j) = ahead_settle list j

zero_suc : {A : Type 0} (n : ℕ) → 0 ≡ suc n → A
zero_suc n e = absurd (omega arith)

-- where none is ahead, and something stands, that is an instruction
pub ahead_none : (list : List Sym) (j : ℕ) → is_word (slice_get list j) ≡ true → selects_ahead list j ≡ 0 → plain_at (slice_get list j) ≡ true
ahead_none [] j w e = never w
ahead_none (syms.Label label ∷ list) zero w e = never w
ahead_none (syms.SelectBank Rp0 on ∷ list) zero w e = zero_suc (selects_in_front list) (sym e)
ahead_none (syms.SelectBank Rp1 on ∷ list) zero w e = zero_suc (selects_in_front list) (sym e)
ahead_none (syms.SelectPage bit target ∷ list) zero w e = zero_suc (selects_in_front list) (sym e)
ahead_none (s ∷ list) zero w e = refl
ahead_none (s ∷ list) (suc j) w e = ahead_none list j w e

-- and where some are, a select stands there
pub ahead_some : (list : List Sym) (j n : ℕ) → is_word (slice_get list j) ≡ true → selects_ahead list j ≡ suc n → select_at (slice_get list j) ≡ true
ahead_some [] j n w e = never w
ahead_some (syms.Label label ∷ list) zero n w e = never w
ahead_some (syms.SelectBank Rp0 on ∷ list) zero n w e = refl
ahead_some (syms.SelectBank Rp1 on ∷ list) zero n w e = refl
ahead_some (syms.SelectPage bit target ∷ list) zero n w e = refl
ahead_some (s ∷ list) zero n w e = zero_suc n e
ahead_some (s ∷ list) (suc j) n w e = ahead_some list j n w e

-- a select takes one instruction of the chip
pub select_time : (s : Option Sym) → select_at s ≡ true → time_at s ≡ 1
select_time None e = never e
select_time (Some (syms.Table table root)) e = never e
select_time (Some s) e = refl
