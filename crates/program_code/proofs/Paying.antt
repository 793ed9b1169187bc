-- How many words some instructions take whatever stands behind them, and whether the frame's bank is selected then.
use Rattle.std.proofs.Common.{◌≡◌, ℕ, ◌+◌, ◌≤◌, Bool, true, false, not, ◌&&◌, ◌||◌, nat_eq, if◌then◌else◌, List, [], ◌∷◌, ◌++◌, Option, Some, None, refl, ap, ◌∙◌, subst, append_assoc, eq-eqb, arith}
use Rattle.std.proofs.lemmas.List.Sums.{sum_by-cons}
use Rattle.core_code.specs.declared.code.Byte.{Byte}
use Rattle.core_code.specs.declared.code.Byte.TheVariants as bytes
use Rattle.sym_code.specs.Selects.{is_select}
use Rattle.sym_code.specs.Words.{is_common, words_of_one, most_of_operand, most_of_one, most_words}
use Rattle.sym_code.specs.Touching.{is_file, is_bit_write}
use Rattle.sym_code.specs.declared.code.BitOperation.{BitOperation}
use Rattle.sym_code.specs.declared.code.FileOperation.{FileOperation}
use Rattle.sym_code.specs.declared.code.Into.{Into}
use Rattle.sym_code.specs.declared.code.Operand.{Operand}
use Rattle.sym_code.specs.declared.code.Operand.TheVariants as operands
use Rattle.sym_code.specs.declared.code.Sym.{Sym}
use Rattle.sym_code.specs.declared.code.Sym.TheVariants as syms
use Rattle.bank_page.specs.Kinds.{is_skip, skips_by_file, skips_by_bit, byte_named, byte_of, target_of}
use Rattle.program_code.specs.Counting.{is_own, bank_words, page_words, select_words, loses, has_with, has_behind, counted}
use Rattle.program_code.proofs.Chain.{never, has_none, none_later}
use Rattle.select_code.specs.Pieces.{byte_behind}

-- the selects of the frame's bank, where it isn't selected
abbrev pub extra : Bool → ℕ
extra true = 0
extra false = 2

-- ---- a byte of the frame, or a result
abbrev pub IsMine : ℕ → Byte → Type 0
IsMine c (bytes.Frame d k) = nat_eq c d ≡ true
IsMine c _ = ⊥

abbrev pub IsEasy : ℕ → Byte → Type 0
IsEasy c (bytes.Frame d k) = nat_eq c d ≡ true
IsEasy c (bytes.Result r k) = Unit {0}
IsEasy c _ = ⊥

pub easy_mine : (c : ℕ) (byte : Byte) → IsMine c byte → IsEasy c byte
easy_mine c (bytes.Frame d k) h = h
easy_mine c (bytes.Static object offset) h = absurd h
easy_mine c (bytes.Result r k) h = absurd h
easy_mine c (bytes.Device address) h = absurd h

pub own_frame : (c k : ℕ) → IsMine c (bytes.Frame c k)
own_frame c k = eq-eqb c c refl

pub mine_behind : (c : ℕ) (byte : Byte) (k : ℕ) → IsMine c byte → IsMine c (byte_behind byte k)
mine_behind c (bytes.Frame d n) k h = h
mine_behind c (bytes.Static object offset) k h = absurd h
mine_behind c (bytes.Result r n) k h = absurd h
mine_behind c (bytes.Device address) k h = absurd h

pub easy_behind : (c : ℕ) (byte : Byte) (k : ℕ) → IsEasy c byte → IsEasy c (byte_behind byte k)
easy_behind c (bytes.Frame d n) k h = h
easy_behind c (bytes.Result r n) k h = tt
easy_behind c (bytes.Static object offset) k h = absurd h
easy_behind c (bytes.Device address) k h = absurd h

module _ (c : ℕ) where
  -- ---- with less that is selected no fewer words
  with_less : (has less : Bool) → (less ≡ true → has ≡ true) → (o : Option Byte) → bank_words c has o ≤ bank_words c less o
  with_less has less h None = omega arith
  with_less has less h (Some byte) = by_cases has less (is_own c byte) h
    where
      by_cases : (a b o : Bool) → (b ≡ true → a ≡ true) → (if a && o then 0 else 2) ≤ (if b && o then 0 else 2)
      by_cases true true o h = omega arith
      by_cases true false true h = omega arith
      by_cases true false false h = omega arith
      by_cases false true o h = never (h refl)
      by_cases false false o h = omega arith

  has_more : (has less skips : Bool) → (less ≡ true → has ≡ true) → (o : Option Byte) → has_with c less skips o ≡ true → has_with c has skips o ≡ true
  has_more has less skips h None e = h e
  has_more has less skips h (Some byte) e = by_cases has less (is_own c byte) (not skips) h e
    where
      by_cases : (a b o k : Bool) → (b ≡ true → a ≡ true) → (if o then b || k else false) ≡ true → (if o then a || k else false) ≡ true
      by_cases true b true k h e = refl
      by_cases false true o k h e = never (h refl)
      by_cases false false o k h e = e
      by_cases a b false k h e = never e

  has_more_behind : (has less behind : Bool) (s : Sym) → (less ≡ true → has ≡ true) → has_behind c less behind s ≡ true → has_behind c has behind s ≡ true
  has_more_behind has less behind s h e = by_loss (loses s) e
    where
      by_loss : (l : Bool) → (if l then false else has_with c less (behind || is_skip s) (byte_of s)) ≡ true → (if l then false else has_with c has (behind || is_skip s) (byte_of s)) ≡ true
      by_loss true e = never e
      by_loss false e = has_more has less (behind || is_skip s) h (byte_of s) e

  pub fewer : (has less behind : Bool) (list : List Sym) → (less ≡ true → has ≡ true) → counted c has behind list ≤ counted c less behind list
  fewer has less behind [] h = omega arith
  fewer has less behind (s ∷ rest) h =
      let one = with_less has less h (byte_of s) in
      let more = fewer (has_behind c has behind s) (has_behind c less behind s) (is_skip s) rest (has_more_behind has less behind s h) in
      omega (arith, one, more)

  -- ---- the words of a list, from what is selected before it, behind a skip or not, to the same behind it
  abbrev pub Pays : Bool → Bool → ℕ → Bool → Bool → List Sym → Type 0
  Pays has behind n last skips code = ((rest : List Sym) → counted c has behind (code ++ rest) ≤ n + counted c last skips rest) × (has_none code ≡ true)

  none_on : (xs ys : List Sym) → has_none xs ≡ true → has_none ys ≡ true → has_none (xs ++ ys) ≡ true
  none_on [] ys p q = q
  none_on (s ∷ xs) ys p q = by_first (is_select s) (has_none xs) (has_none (xs ++ ys)) p (none_on xs ys (none_later s xs p) q)
    where
      by_first : (a b d : Bool) → (not a && b) ≡ true → d ≡ true → (not a && d) ≡ true
      by_first true b d e f = e
      by_first false b d e f = f

  pub pays_none : (has behind : Bool) → Pays has behind 0 has behind []
  pays_none has behind = (λ rest. omega arith, refl)

  pub pays_on : (has behind mid between last skips : Bool) (n m : ℕ) (xs ys : List Sym) → Pays has behind n mid between xs → Pays mid between m last skips ys → Pays has behind (n + m) last skips (xs ++ ys)
  pays_on has behind mid between last skips n m xs ys p q = (
    λ rest.
        let e = ap (counted c has behind) (append_assoc xs ys rest) in
        let f = p.0 (ys ++ rest) in
        let g = q.0 rest in
        omega (arith, e, f, g),
    none_on xs ys p.1 q.1,
  )

  pub pays_more : (has behind last skips : Bool) (n m : ℕ) (xs : List Sym) → n ≤ m → Pays has behind n last skips xs → Pays has behind m last skips xs
  pays_more has behind last skips n m xs l p = (λ rest. let f = p.0 rest in omega (arith, f, l), p.1)

  -- less is known behind it, or more before it
  pub pays_less : (has behind last less skips : Bool) (n : ℕ) (xs : List Sym) → (less ≡ true → last ≡ true) → Pays has behind n last skips xs → Pays has behind n less skips xs
  pays_less has behind last less skips n xs h p = (λ rest. let f = p.0 rest in let g = fewer last less skips rest h in omega (arith, f, g), p.1)

  pub pays_from : (has less behind last skips : Bool) (n : ℕ) (xs : List Sym) → (less ≡ true → has ≡ true) → Pays less behind n last skips xs → Pays has behind n last skips xs
  pays_from has less behind last skips n xs h p = (λ rest. let f = p.0 rest in let g = fewer has less behind (xs ++ rest) h in omega (arith, f, g), p.1)

  -- ---- any instruction
  named_most : (byte : Byte) (has k : Bool) → is_common byte ≡ k → 1 + bank_words c has (if k then None else Some byte) ≤ (if k then 1 else 3)
  named_most byte has true e = omega arith
  named_most byte has false e = by_cases has (is_own c byte)
    where
      by_cases : (a o : Bool) → 1 + (if a && o then 0 else 2) ≤ 3
      by_cases true true = omega arith
      by_cases true false = omega arith
      by_cases false o = omega arith

  operand_most : (file : Operand) (has : Bool) → 1 + (bank_words c has (byte_named file) + 0) ≤ most_of_operand file
  operand_most (operands.Byte byte) has = let l = named_most byte has (is_common byte) refl in omega (arith, l)
  operand_most (operands.Register register) has = omega arith
  operand_most (operands.Saved saved) has = omega arith

  one_most : (s : Sym) (has : Bool) → words_of_one s + select_words c has s ≤ most_of_one s
  one_most (syms.File op file into) has = operand_most file has
  one_most (syms.Movwf file) has = operand_most file has
  one_most (syms.Clrf file) has = operand_most file has
  one_most (syms.Bit op file bit) has = operand_most file has
  one_most (syms.Literal op value) has = omega arith
  one_most (syms.Plain op) has = omega arith
  one_most (syms.Call target) has = omega arith
  one_most (syms.Goto target) has = omega arith
  one_most (syms.Label label) has = omega arith
  one_most (syms.SelectBank bit on) has = omega arith
  one_most (syms.SelectPage bit target) has = omega arith
  one_most (syms.Table table root) has = omega arith

  -- whether the last of some instructions is a skip
  abbrev pub skips_last : Bool → List Sym → Bool
  skips_last behind [] = behind
  skips_last behind (s ∷ list) = skips_last (is_skip s) list

  most_spent : (has behind : Bool) (list rest : List Sym) → counted c has behind (list ++ rest) ≤ most_words list + counted c false (skips_last behind list) rest
  most_spent has behind [] rest = let l = fewer has false behind rest (λ e. never e) in omega (arith, l)
  most_spent has behind (s ∷ list) rest =
      let one = one_most s has in
      let more = most_spent (has_behind c has behind s) (is_skip s) list rest in
      let sum = sum_by-cons most_of_one s list in
      omega (arith, one, more, sum)

  pub pays_most : (has behind : Bool) (list : List Sym) → has_none list ≡ true → Pays has behind (most_words list) false (skips_last behind list) list
  pays_most has behind list none = (λ rest. most_spent has behind list rest, none)

  -- ---- an instruction on a byte of the frame or a result
  -- a byte of the frame: from here on its bank is selected
  mine_named : (byte : Byte) → IsMine c byte → byte_named (operands.Byte byte) ≡ Some byte
  mine_named (bytes.Frame d k) h = refl
  mine_named (bytes.Static object offset) h = absurd h
  mine_named (bytes.Result r k) h = absurd h
  mine_named (bytes.Device address) h = absurd h

  mine_own : (byte : Byte) → IsMine c byte → is_own c byte ≡ true
  mine_own (bytes.Frame d k) h = h
  mine_own (bytes.Static object offset) h = absurd h
  mine_own (bytes.Result r k) h = absurd h
  mine_own (bytes.Device address) h = absurd h

  -- what an instruction is by its parts, where these are given
  abbrev pub Stands : Sym → Option Byte → Type 0
  Stands s o = (is_select s ≡ false) × (words_of_one s ≡ 1) × (byte_of s ≡ o) × (target_of s ≡ None) × (loses s ≡ false)

  bank_one : (has : Bool) (byte : Byte) → is_own c byte ≡ true → bank_words c has (Some byte) ≤ extra has
  bank_one true byte e = let f : (if is_own c byte then 0 else 2) ≡ extra true = ap {B = ℕ} (λ (o : Bool). if o then 0 else 2) e in omega (arith, f)
  bank_one false byte e = omega arith

  own_last : (has skips : Bool) (byte : Byte) → is_own c byte ≡ true → (has || not skips) ≡ true → has_with c has skips (Some byte) ≡ true
  own_last has skips byte e f = ap (λ (o : Bool). if o then has || not skips else false) e ∙ f

  by_parts : (s : Sym) (has behind last : Bool) (n : ℕ) (o : Option Byte) → Stands s o → bank_words c has o ≤ n → has_with c has (behind || is_skip s) o ≡ last → Pays has behind (1 + n) last (is_skip s) (s ∷ [])
  by_parts s has behind last n o is l at = (
    λ rest.
        let words = is.1 in
        let bank = ap (λ (x : Option Byte). bank_words c has x) is.2 in
        let page = ap page_words is.3 in
        let known : has_behind c has behind s ≡ last =
        ap (λ (k : Bool). if k then false else has_with c has (behind || is_skip s) (byte_of s)) is.4 ∙ ap (λ (x : Option Byte). has_with c has (behind || is_skip s) x) is.2 ∙ at in
        let more = ap (λ (h : Bool). counted c h (is_skip s) rest) known in
        omega (arith, words, bank, page, l, more),
    ap (λ (k : Bool). not k && true) is.0,
  )

  and_none : (a b : Bool) → ((a && false) && b) ≡ false
  and_none true b = refl
  and_none false b = refl

  -- instructions that name a byte of the frame
  stands_file : (op : FileOperation) (byte : Byte) (into : Into) → IsMine c byte → Stands (syms.File op (operands.Byte byte) into) (Some byte)
  stands_file op (bytes.Frame d k) into h = (refl, refl, refl, refl, and_none (is_file into) true)
  stands_file op (bytes.Static object offset) into h = absurd h
  stands_file op (bytes.Result r k) into h = absurd h
  stands_file op (bytes.Device address) into h = absurd h

  stands_store : (byte : Byte) → IsMine c byte → Stands (syms.Movwf (operands.Byte byte)) (Some byte)
  stands_store (bytes.Frame d k) h = (refl, refl, refl, refl, refl)
  stands_store (bytes.Static object offset) h = absurd h
  stands_store (bytes.Result r k) h = absurd h
  stands_store (bytes.Device address) h = absurd h

  stands_clear : (byte : Byte) → IsMine c byte → Stands (syms.Clrf (operands.Byte byte)) (Some byte)
  stands_clear (bytes.Frame d k) h = (refl, refl, refl, refl, refl)
  stands_clear (bytes.Static object offset) h = absurd h
  stands_clear (bytes.Result r k) h = absurd h
  stands_clear (bytes.Device address) h = absurd h

  stands_bit : (op : BitOperation) (byte : Byte) (n : ℕ) → IsMine c byte → Stands (syms.Bit op (operands.Byte byte) n) (Some byte)
  stands_bit op (bytes.Frame d k) n h = (refl, refl, refl, refl, and_none (is_bit_write op) (nat_eq n 5 || nat_eq n 6))
  stands_bit op (bytes.Static object offset) n h = absurd h
  stands_bit op (bytes.Result r k) n h = absurd h
  stands_bit op (bytes.Device address) n h = absurd h

  -- a byte of the frame, from anywhere
  pub pays_mine : (s : Sym) (byte : Byte) (has : Bool) → Stands s (Some byte) → IsMine c byte → is_skip s ≡ false → Pays has false (1 + extra has) true false (s ∷ [])
  pays_mine s byte has is mine skip =
      let free : (has || not (is_skip s)) ≡ true = ap (λ (k : Bool). has || not k) skip ∙ or_true has in
      let P : Bool → Type 0 = λ k. Pays has false (1 + extra has) true k (s ∷ []) in
      subst P skip (by_parts s has false true (extra has) (Some byte) is (bank_one has byte (mine_own byte mine)) (own_last has (is_skip s) byte (mine_own byte mine) free))
    where
      or_true : (a : Bool) → (a || true) ≡ true
      or_true true = refl
      or_true false = refl

  -- the same where it is selected
  held_mine : (s : Sym) (byte : Byte) (behind : Bool) → Stands s (Some byte) → IsMine c byte → Pays true behind 1 true (is_skip s) (s ∷ [])
  held_mine s byte behind is mine = by_parts s true behind true 0 (Some byte) is (bank_one true byte (mine_own byte mine)) (own_last true (behind || is_skip s) byte (mine_own byte mine) refl)

  -- nothing that is named needs a bank
  pub pays_plain : (s : Sym) (has behind : Bool) → Stands s None → Pays has behind 1 has (is_skip s) (s ∷ [])
  pays_plain s has behind is = by_parts s has behind has 0 None is (omega arith) refl

  pub file_held : (op : FileOperation) (byte : Byte) (into : Into) (behind : Bool) → IsEasy c byte → Pays true behind 1 true (skips_by_file op) (syms.File op (operands.Byte byte) into ∷ [])
  file_held op (bytes.Frame d k) into behind h = held_mine (syms.File op (operands.Byte (bytes.Frame d k)) into) (bytes.Frame d k) behind (stands_file op (bytes.Frame d k) into h) h
  file_held op (bytes.Result r k) into behind h = pays_plain (syms.File op (operands.Byte (bytes.Result r k)) into) true behind (refl, refl, refl, refl, and_none (is_file into) true)
  file_held op (bytes.Static object offset) into behind h = absurd h
  file_held op (bytes.Device address) into behind h = absurd h

  pub store_held : (byte : Byte) (behind : Bool) → IsEasy c byte → Pays true behind 1 true false (syms.Movwf (operands.Byte byte) ∷ [])
  store_held (bytes.Frame d k) behind h = held_mine (syms.Movwf (operands.Byte (bytes.Frame d k))) (bytes.Frame d k) behind (stands_store (bytes.Frame d k) h) h
  store_held (bytes.Result r k) behind h = pays_plain (syms.Movwf (operands.Byte (bytes.Result r k))) true behind (refl, refl, refl, refl, refl)
  store_held (bytes.Static object offset) behind h = absurd h
  store_held (bytes.Device address) behind h = absurd h

  pub bit_held : (op : BitOperation) (byte : Byte) (n : ℕ) (behind : Bool) → IsMine c byte → Pays true behind 1 true (skips_by_bit op) (syms.Bit op (operands.Byte byte) n ∷ [])
  bit_held op byte n behind h = held_mine (syms.Bit op (operands.Byte byte) n) byte behind (stands_bit op byte n h) h

  -- a test that skips: nothing more is known behind it
  pub bit_skips : (op : BitOperation) (byte : Byte) (n : ℕ) (has : Bool) → IsMine c byte → skips_by_bit op ≡ true → Pays has false (1 + extra has) has true (syms.Bit op (operands.Byte byte) n ∷ [])
  bit_skips op byte n has h e =
      let P : Bool → Type 0 = λ k. Pays has false (1 + extra has) has k (syms.Bit op (operands.Byte byte) n ∷ []) in
      subst P e (by_parts (syms.Bit op (operands.Byte byte) n) has false has (extra has) (Some byte) (stands_bit op byte n h) (bank_one has byte (mine_own byte h)) (by_own (is_own c byte) (skips_by_bit op) (mine_own byte h) e))
    where
      or_false : (a : Bool) → (a || false) ≡ a
      or_false true = refl
      or_false false = refl

      by_own : (o k : Bool) → o ≡ true → k ≡ true → (if o then has || not k else false) ≡ has
      by_own o k e f = ap (λ (x : Bool). if x then has || not k else false) e ∙ ap (λ (x : Bool). has || not x) f ∙ or_false has

  pub file_mine : (op : FileOperation) (byte : Byte) (into : Into) (has : Bool) → IsMine c byte → skips_by_file op ≡ false → Pays has false (1 + extra has) true false (syms.File op (operands.Byte byte) into ∷ [])
  file_mine op byte into has h e = pays_mine (syms.File op (operands.Byte byte) into) byte has (stands_file op byte into h) h e

  pub store_mine : (byte : Byte) (has : Bool) → IsMine c byte → Pays has false (1 + extra has) true false (syms.Movwf (operands.Byte byte) ∷ [])
  store_mine byte has h = pays_mine (syms.Movwf (operands.Byte byte)) byte has (stands_store byte h) h refl

  pub clear_mine : (byte : Byte) (has : Bool) → IsMine c byte → Pays has false (1 + extra has) true false (syms.Clrf (operands.Byte byte) ∷ [])
  clear_mine byte has h = pays_mine (syms.Clrf (operands.Byte byte)) byte has (stands_clear byte h) h refl

  -- ---- code on bytes of the frame and results alone, which selects the frame's bank once, where it isn't selected
  abbrev pub Tame : ℕ → List Sym → Type 0
  Tame n code = (has : Bool) → Pays has false (n + extra has) true false code

  -- the same where it is selected
  abbrev pub Held : ℕ → List Sym → Type 0
  Held n code = Pays true false n true false code

  -- code that names no byte of a bank
  abbrev pub Bare : ℕ → List Sym → Type 0
  Bare n code = (has : Bool) → Pays has false n has false code

  pub held_on : (n m : ℕ) (xs ys : List Sym) → Held n xs → Held m ys → Held (n + m) (xs ++ ys)
  held_on n m xs ys p q = pays_on true false true false true false n m xs ys p q

  pub held_tame : (n : ℕ) (xs : List Sym) → Tame n xs → Held n xs
  held_tame n xs p = pays_more true false true false (n + 0) n xs (omega arith) (p true)

  pub held_bare : (n : ℕ) (xs : List Sym) → Bare n xs → Held n xs
  held_bare n xs p = p true

  pub tame_on : (n m : ℕ) (xs ys : List Sym) → Tame n xs → Held m ys → Tame (n + m) (xs ++ ys)
  tame_on n m xs ys p q has = pays_more has false true false (n + extra has + m) (n + m + extra has) (xs ++ ys) (omega arith) (pays_on has false true false true false (n + extra has) m xs ys (p has) q)

  pub tame_behind : (n m : ℕ) (xs ys : List Sym) → Bare n xs → Tame m ys → Tame (n + m) (xs ++ ys)
  tame_behind n m xs ys p q has = pays_more has false true false (n + (m + extra has)) (n + m + extra has) (xs ++ ys) (omega arith) (pays_on has false has false true false n (m + extra has) xs ys (p has) (q has))

  pub bare_on : (n m : ℕ) (xs ys : List Sym) → Bare n xs → Bare m ys → Bare (n + m) (xs ++ ys)
  bare_on n m xs ys p q has = pays_on has false has false has false n m xs ys (p has) (q has)

  pub tame_more : (n m : ℕ) (xs : List Sym) → n ≤ m → Tame n xs → Tame m xs
  tame_more n m xs l p has = pays_more has false true false (n + extra has) (m + extra has) xs (omega (arith, l)) (p has)

  pub held_more : (n m : ℕ) (xs : List Sym) → n ≤ m → Held n xs → Held m xs
  held_more n m xs l p = pays_more true false true false n m xs l p
