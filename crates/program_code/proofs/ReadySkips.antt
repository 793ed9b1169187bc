-- Where skips are paired, and what is named has an address, selects can be put.
use Rattle.std.proofs.Common.{◌≡◌, ℕ, ◌/◌, nat_eq, Bool, true, false, not, ◌&&◌, ◌||◌, if◌then◌else◌, List, [], ◌∷◌, Option, Some, None, is_none, is_some, refl, sym, ap, ◌∙◌}
use Rattle.std.proofs.lemmas.Bool.{eq-eqb}
use Rattle.core_code.specs.declared.code.Byte.{Byte}
use Rattle.pic_map.specs.declared.Placed.{Placed}
use Rattle.sym_code.specs.Selects.{is_select}
use Rattle.sym_code.specs.declared.code.Sym.{Sym}
use Rattle.bank_page.specs.Kinds.{is_label, is_skip, byte_of, target_of}
use Rattle.bank_page.specs.Known.{writes_status, writes_pclath}
use Rattle.bank_page.specs.Needs.{both_banks, banked_at, banked, with_bank, both, needs_one, needs_in}
use Rattle.bank_page.specs.Ready.{is_ready, are_ready}
use Rattle.bank_page.specs.declared.needs.Needs.{Needs}
use Rattle.bank_page.proofs.Chains.{needs_step}
use Rattle.program_code.specs.Paired.{is_steady, is_home, goes_quiet, goes_home, goes_alone, is_paired, are_paired, HasPlace, HavePlaces}
use Rattle.program_code.proofs.ListSkips as lists
use Rattle.program_code.proofs.ListSkips.{and_true}

-- what an instruction needs that may stand in a run of skips
steady_step : (select label skip change : Bool) (s : Sym) (bank : Option (Option ℕ)) (behind : Option Needs) → (not select && (not label && not (skip && change))) ≡ true
    → needs_step select label skip change s bank behind ≡ (if skip then both bank behind else needs_one s bank)
steady_step true label skip change s bank behind e = absurd (cc)
steady_step false true skip change s bank behind e = absurd (cc)
steady_step false false true true s bank behind e = absurd (cc)
steady_step false false true false s bank behind e = refl
steady_step false false false change s bank behind e = refl

module _ (placed : Placed) (home : Byte → Bool) (bank : ℕ) where
  steady : (s : Sym) (rest : List Sym) → is_steady s ≡ true → needs_in placed (s ∷ rest) ≡ (if is_skip s then both (banked placed (byte_of s)) (needs_in placed rest) else needs_one s (banked placed (byte_of s)))
  steady s rest e = steady_step (is_select s) (is_label s) (is_skip s) (writes_status s || writes_pclath s) s (banked placed (byte_of s)) (needs_in placed rest) e

  -- no bank, or that of the home bytes
  abbrev AtMost : Option ℕ → Type 0
  AtMost None = Unit {0}
  AtMost (Some number) = number ≡ bank

  abbrev Known : Option Byte → Type 0
  Known o = (byte : Byte) → o ≡ Some byte → HasPlace placed home bank byte

  -- ---- the bank of a byte
  no_byte : (o : Option Byte) → is_none o ≡ true → banked placed o ≡ Some None
  no_byte None e = refl
  no_byte (Some byte) e = absurd (cc)

  any_byte : (o : Option Byte) → Known o → (k : Option ℕ) × (banked placed o ≡ Some k)
  any_byte None h = (None, refl)
  any_byte (Some byte) h = let place = h byte refl in (Some (place.0 / 128), ap banked_at place.1)

  home_byte : (o : Option Byte) → Known o → is_home home o ≡ true → (k : Option ℕ) × (banked placed o ≡ Some k) × AtMost k
  home_byte None h e = (None, refl, tt)
  home_byte (Some byte) h e = let place = h byte refl in (Some (place.0 / 128), ap banked_at place.1, place.2 e)

  joined_banks : (k d : Option ℕ) → AtMost k → AtMost d → (r : Option ℕ) × (both_banks k d ≡ Some r) × AtMost r
  joined_banks None d p q = (d, refl, q)
  joined_banks (Some one) None p q = (Some one, refl, p)
  joined_banks (Some one) (Some other) p q = (Some one, ap (λ (t : Bool). if t then Some (Some one) else None) (eq-eqb one other (p ∙ sym q)), p)

  alone_bank : (k : Option ℕ) → both_banks k None ≡ Some k
  alone_bank None = refl
  alone_bank (Some one) = refl

  -- ---- an instruction with skips before it
  quiet_by : (s : Sym) (k g : Bool) (b : Option (Option ℕ)) (behind : Option Needs) → b ≡ Some None → (if k then g else true) ≡ true → (g ≡ true → (n : Needs) × (behind ≡ Some n) × (n.bank ≡ None))
      → (n : Needs) × ((if k then both b behind else needs_one s b) ≡ Some n) × (n.bank ≡ None)
  quiet_by s true g b behind is e later =
      let m = later e in
      (record { bank = m.0.bank; page = m.0.page }, ap (λ (x : Option (Option ℕ)). both x behind) is ∙ ap (both (Some None)) m.1, m.2)
  quiet_by s false g b behind is e later = (record { bank = None; page = target_of s }, ap (needs_one s) is, refl)

  quiet_needs : (list : List Sym) → goes_quiet list ≡ true → (n : Needs) × (needs_in placed list ≡ Some n) × (n.bank ≡ None)
  quiet_needs [] e = absurd (cc)
  quiet_needs (s ∷ rest) e =
      let p = lists.both (is_steady s) (is_none (byte_of s) && (if is_skip s then goes_quiet rest else true)) e in
      let q = lists.both (is_none (byte_of s)) (if is_skip s then goes_quiet rest else true) p.1 in
      let n = quiet_by s (is_skip s) (goes_quiet rest) (banked placed (byte_of s)) (needs_in placed rest) (no_byte (byte_of s) q.0) q.1 (quiet_needs rest) in
      (n.0, steady s rest p.0 ∙ n.1, n.2)

  home_by : (s : Sym) (k g : Bool) (b : Option (Option ℕ)) (behind : Option Needs) (one : Option ℕ) → b ≡ Some one → AtMost one → (if k then g else true) ≡ true → (g ≡ true → (n : Needs) × (behind ≡ Some n) × AtMost n.bank)
      → (n : Needs) × ((if k then both b behind else needs_one s b) ≡ Some n) × AtMost n.bank
  home_by s true g b behind one is most e later =
      let m = later e in
      let j = joined_banks one m.0.bank most m.2 in (
        record { bank = j.0; page = m.0.page },
        ap (λ (x : Option (Option ℕ)). both x behind) is ∙ ap (both (Some one)) m.1 ∙ ap (λ (x : Option (Option ℕ)). with_bank x m.0) j.1,
        j.2,
      )
  home_by s false g b behind one is most e later = (record { bank = one; page = target_of s }, ap (needs_one s) is, most)

  home_needs : (list : List Sym) → HavePlaces placed home bank list → goes_home home list ≡ true → (n : Needs) × (needs_in placed list ≡ Some n) × AtMost n.bank
  home_needs [] places e = absurd (cc)
  home_needs (s ∷ rest) places e =
      let p = lists.both (is_steady s) (is_home home (byte_of s) && (if is_skip s then goes_home home rest else true)) e in
      let q = lists.both (is_home home (byte_of s)) (if is_skip s then goes_home home rest else true) p.1 in
      let one = home_byte (byte_of s) places.0 q.0 in
      let n = home_by s (is_skip s) (goes_home home rest) (banked placed (byte_of s)) (needs_in placed rest) one.0 one.1 one.2 q.1 (home_needs rest places.1) in
      (n.0, steady s rest p.0 ∙ n.1, n.2)

  alone_by : (s : Sym) (k : Bool) (b : Option (Option ℕ)) (behind : Option Needs) (one : Option ℕ) → b ≡ Some one → not k ≡ true → (n : Needs) × ((if k then both b behind else needs_one s b) ≡ Some n)
  alone_by s true b behind one is e = absurd (cc)
  alone_by s false b behind one is e = (record { bank = one; page = target_of s }, ap (needs_one s) is)

  alone_needs : (list : List Sym) → HavePlaces placed home bank list → goes_alone list ≡ true → (n : Needs) × (needs_in placed list ≡ Some n)
  alone_needs [] places e = absurd (cc)
  alone_needs (s ∷ rest) places e =
      let p = lists.both (is_steady s) (not (is_skip s)) e in
      let one = any_byte (byte_of s) places.0 in
      let n = alone_by s (is_skip s) (banked placed (byte_of s)) (needs_in placed rest) one.0 one.1 p.1 in
      (n.0, steady s rest p.0 ∙ n.1)

  -- ---- a skip
  abbrev Told : List Sym → Type 0
  Told list = (n : Needs) × (needs_in placed list ≡ Some n)

  -- what stands behind it is quiet, or it names no byte itself
  with_quiet : (s : Sym) (rest : List Sym) → is_steady s ≡ true → is_skip s ≡ true → Known (byte_of s) → goes_quiet rest ≡ true → Told (s ∷ rest)
  with_quiet s rest fine skip known e =
      let one = any_byte (byte_of s) known in
      let m = quiet_needs rest e in
      let b = banked placed (byte_of s) in
      let behind = needs_in placed rest in (
        record { bank = one.0; page = m.0.page },
        steady s rest fine ∙ ap (λ (k : Bool). if k then both b behind else needs_one s b) skip ∙ ap (λ (x : Option (Option ℕ)). both x behind) one.1 ∙ ap (both (Some one.0)) m.1
            ∙ ap (λ (x : Option ℕ). with_bank (both_banks one.0 x) m.0) m.2 ∙ ap (λ (x : Option (Option ℕ)). with_bank x m.0) (alone_bank one.0),
      )

  with_alone : (s : Sym) (rest : List Sym) → is_steady s ≡ true → is_skip s ≡ true → HavePlaces placed home bank rest → (is_none (byte_of s) && goes_alone rest) ≡ true → Told (s ∷ rest)
  with_alone s rest fine skip places e =
      let p = lists.both (is_none (byte_of s)) (goes_alone rest) e in
      let m = alone_needs rest places p.1 in
      let b = banked placed (byte_of s) in
      let behind = needs_in placed rest in (
        record { bank = m.0.bank; page = m.0.page },
        steady s rest fine ∙ ap (λ (k : Bool). if k then both b behind else needs_one s b) skip ∙ ap (λ (x : Option (Option ℕ)). both x behind) (no_byte (byte_of s) p.0) ∙ ap (both (Some None)) m.1,
      )

  skip_told : (s : Sym) (rest : List Sym) → is_skip s ≡ true → HavePlaces placed home bank (s ∷ rest) → is_paired home s rest ≡ true → Told (s ∷ rest)
  skip_told s rest skip places e =
      let p = lists.both (is_steady s) (goes_quiet rest || (goes_home home (s ∷ rest) || (is_none (byte_of s) && goes_alone rest))) e in
      by p.0 (goes_quiet rest) (goes_home home (s ∷ rest)) (is_none (byte_of s) && goes_alone rest) refl refl refl p.1
    where
      by : is_steady s ≡ true → (q h a : Bool) → goes_quiet rest ≡ q → goes_home home (s ∷ rest) ≡ h → (is_none (byte_of s) && goes_alone rest) ≡ a → (q || (h || a)) ≡ true → Told (s ∷ rest)
      by fine true h a d f g e = with_quiet s rest fine skip places.0 d
      by fine false true a d f g e = let n = home_needs (s ∷ rest) places f in (n.0, n.1)
      by fine false false true d f g e = with_alone s rest fine skip places.1 g
      by fine false false false d f g e = absurd (cc)

  -- ---- all
  one_ready : (s : Sym) (rest : List Sym) → HavePlaces placed home bank (s ∷ rest) → (if is_skip s then is_paired home s rest else true) ≡ true → is_ready placed s (s ∷ rest) ≡ true
  one_ready s rest places e = by (is_select s) (is_label s) (is_skip s) refl refl refl
    where
      by : (a b k : Bool) → is_select s ≡ a → is_label s ≡ b → is_skip s ≡ k → ((a || b) || is_some (needs_in placed (s ∷ rest))) ≡ true
      by true b k d f g = refl
      by false true k d f g = refl
      by false false true d f g = ap is_some (skip_told s rest g places (sym (ap (λ (t : Bool). if t then is_paired home s rest else true) g) ∙ e)).1
      by false false false d f g =
          let change = writes_status s || writes_pclath s in
          let b = banked placed (byte_of s) in
          let behind = needs_in placed rest in
          let one = any_byte (byte_of s) places.0 in
          ap is_some (ap (λ (t : Bool). needs_step t (is_label s) (is_skip s) change s b behind) d ∙ ap (λ (t : Bool). needs_step false t (is_skip s) change s b behind) f ∙ ap (λ (t : Bool). needs_step false false t change s b behind) g ∙ ap (needs_one s) one.1)

  pub all_ready : (list : List Sym) → HavePlaces placed home bank list → are_paired home list ≡ true → are_ready placed list ≡ true
  all_ready [] places e = refl
  all_ready (s ∷ rest) places e =
      let p = lists.both (if is_skip s then is_paired home s rest else true) (are_paired home rest) e in
      and_true (is_ready placed s (s ∷ rest)) (are_ready placed rest) (one_ready s rest places p.0) (all_ready rest places.1 p.1)
