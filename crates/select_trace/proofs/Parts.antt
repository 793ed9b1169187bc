-- The parts of a condition and of a loop: where each stands, and where its labels are found.
use Rattle.std.proofs.Common.{◌≡◌, ℕ, suc, ◌+◌, ◌*◌, ◌<◌, true, List, [], ◌∷◌, ◌++◌, length, Some, slice_get, refl, sym, ap, ◌∙◌, subst, arith}
use Rattle.sym_code.specs.Programs.{label_from}
use Rattle.sym_code.specs.declared.code.BitOperation.{BitOperation}
use Rattle.sym_code.specs.declared.code.BitOperation.TheVariants.{Btfsc}
use Rattle.sym_code.specs.declared.code.Label.{Label}
use Rattle.sym_code.specs.declared.code.Sym.{Sym}
use Rattle.sym_code.specs.declared.code.Sym.TheVariants as syms
use Rattle.sym_code.specs.declared.code.Target.TheVariants as targets
use Rattle.select_code.specs.Pieces.{flag_code, first_label, second_label, label_code, goto_code}
use Rattle.select_code.specs.Selected.{Whole, if_code, loop_code}
use Rattle.select_code.specs.declared.pieces.Flag.TheVariants.{Zero}
use Rattle.select_trace.proofs.Standing.{Has, moved, has_front, has_back}
use Rattle.select_trace.proofs.Labels.{Bounds, unlabelled, free_append, Absent, absent_append, free_absent, differs, absent_under, found_at, len_append}

get_at : (b : List Sym) (n m : ℕ) (x : Sym) → n ≡ m → slice_get b n ≡ Some x → slice_get b m ≡ Some x
get_at b n m x e h = subst (λ k. slice_get b k ≡ Some x) e h

-- ---- loops
pub loop_top : (b : List Sym) (l : ℕ) (turn : List Sym) → Bounds 0 0 b → Has b l (loop_code l turn) → label_from b (first_label l) 0 ≡ Some l
loop_top b l turn bs h = found_at b l [] (2 * l) bs (omega arith) tt tt (get_at b l (l + 0) _ (omega arith) h.0) ∙ ap Some (omega arith)

pub loop_last : (b : List Sym) (l : ℕ) (turn : List Sym) → Has b l (loop_code l turn) → slice_get b (suc l + length turn) ≡ Some (syms.Label (second_label l))
loop_last b l turn h = (has_back b (suc l) turn (label_code (second_label l)) h.1).0

pub loop_turn : (b : List Sym) (l : ℕ) (turn : List Sym) → Has b l (loop_code l turn) → Has b (l + 1) turn
loop_turn b l turn h = moved b (suc l) (l + 1) turn (omega arith) (has_front b (suc l) turn (label_code (second_label l)) h.1)

pub loop_end : (b : List Sym) (l : ℕ) (turn : List Sym) → Bounds 0 0 b → Bounds (2 * (l + 1)) (l + 1) turn → Has b l (loop_code l turn) → label_from b (second_label l) 0 ≡ Some (suc l + length turn)
loop_end b l turn bs bt h =
    let x = syms.Label (first_label l) ∷ turn in
    let lx : l + length x ≡ suc l + length turn = omega arith in
    let ab : Absent (2 * l + 1) x = (differs (2 * l) (2 * l + 1) (λ e. omega arith), absent_under (2 * (l + 1)) (l + 1) (2 * l + 1) turn (omega arith) bt) in
    let hx : Has b l x = (h.0, has_front b (suc l) turn (label_code (second_label l)) h.1) in
    found_at b l x (2 * l + 1) bs (omega arith) ab hx (get_at b (suc l + length turn) (l + length x) _ (sym lx) (loop_last b l turn h)) ∙ ap Some lx

pub loop_length : (l : ℕ) (turn : List Sym) → l + length (loop_code l turn) ≡ suc (suc l + length turn)
loop_length l turn = let q = len_append turn (label_code (second_label l)) in omega (arith, q)

-- ---- conditions
-- a skip by Z, and a jump behind it
abbrev pub skip_code : BitOperation → Label → List Sym
skip_code op to = flag_code op Zero ++ goto_code to

-- the test and the jump behind it
abbrev pub head_code : BitOperation → List Sym → Label → List Sym
head_code op test to = test ++ skip_code op to

-- with nothing to do in one of both cases: the code of the other one, behind so many instructions
abbrev pub half_code : BitOperation → ℕ → List Sym → (ℕ → List Sym) → List Sym
half_code op n test part = let head = head_code op test (second_label n) in head ++ part (n + length head) ++ label_code (second_label n)

pub record HalfParts (b : List Sym) (op : BitOperation) (n : ℕ) (test ys : List Sym) (h j : ℕ) : Type 0 where
  pub head : Has b n (head_code op test (second_label n))
  pub part : Has b h ys
  pub end : slice_get b j ≡ Some (syms.Label (second_label n))
  pub found_second : label_from b (second_label n) 0 ≡ Some j

pub half_parts : (b : List Sym) (op : BitOperation) (n : ℕ) (test : List Sym) (part : ℕ → List Sym) → Bounds 0 0 b → unlabelled test ≡ true → ((k : ℕ) → Bounds (2 * k) k (part k)) → Has b n (half_code op n test part)
    → (let h = n + length (head_code op test (second_label n)) in HalfParts b op n test (part h) h (h + length (part h)))
half_parts b op n test part bs free bounds has =
    let head = head_code op test (second_label n) in
    let h = n + length head in
    let ys = part h in
    let l2 = label_code (second_label n) in
    let hq = len_append head ys in
    let tq = len_append test (skip_code op (second_label n)) in
    let lf : n + length (head ++ ys) ≡ h + length ys = omega (arith, hq) in
    let hf = has_front b n (head ++ ys) l2 has in
    let he : slice_get b (n + length (head ++ ys)) ≡ Some (syms.Label (second_label n)) = (has_back b n (head ++ ys) l2 has).0 in
    let ab : Absent (2 * n + 1) (head ++ ys) =
    absent_append (2 * n + 1) head ys (free_absent (2 * n + 1) head (free_append test (skip_code op (second_label n)) free refl)) (absent_under (2 * h) h (2 * n + 1) ys (omega (arith, tq)) (bounds h)) in
    record {
      head = has_front b n head ys hf;
      part = has_back b n head ys hf;
      end = get_at b (n + length (head ++ ys)) (h + length ys) _ lf he;
      found_second = found_at b n (head ++ ys) (2 * n + 1) bs (omega arith) ab hf he ∙ ap Some lf;
    }

pub half_length : (op : BitOperation) (n : ℕ) (test : List Sym) (part : ℕ → List Sym) → (let h = n + length (head_code op test (second_label n)) in n + length (half_code op n test part) ≡ suc (h + length (part h)))
half_length op n test part =
    let head = head_code op test (second_label n) in
    let ys = part (n + length head) in
    let q = len_append (head ++ ys) (label_code (second_label n)) in
    let r = len_append head ys in
    omega (arith, q, r)

-- the whole form: j is where the jump over the other part stands, k where that part begins, z where it ends
pub record IfParts (b : List Sym) (n : ℕ) (test ys ns : List Sym) (h j k z : ℕ) : Type 0 where
  pub head : Has b n (head_code Btfsc test (first_label n))
  pub holds : Has b h ys
  pub out : slice_get b j ≡ Some (syms.Goto (targets.Label (second_label n)))
  pub other : slice_get b (suc j) ≡ Some (syms.Label (first_label n))
  pub next : k ≡ suc (suc j)
  pub fails : Has b k ns
  pub end : slice_get b z ≡ Some (syms.Label (second_label n))
  pub found_first : label_from b (first_label n) 0 ≡ Some (suc j)
  pub found_second : label_from b (second_label n) 0 ≡ Some z

-- what stands before the other part
abbrev pub middle_code : ℕ → List Sym → (ℕ → List Sym) → List Sym
middle_code n test holds = let head = head_code Btfsc test (first_label n) in head ++ holds (n + length head) ++ goto_code (second_label n) ++ label_code (first_label n)

pub if_parts : (b : List Sym) (n : ℕ) (test : List Sym) (holds fails : ℕ → List Sym) → Bounds 0 0 b → unlabelled test ≡ true → ((k : ℕ) → Bounds (2 * k) k (holds k)) → ((k : ℕ) → Bounds (2 * k) k (fails k)) → Has b n (if_code Whole n test holds fails)
    → (let h = n + length (head_code Btfsc test (first_label n)) in let j = h + length (holds h) in let k = n + length (middle_code n test holds) in IfParts b n test (holds h) (fails k) h j k (k + length (fails k)))
if_parts b n test holds fails bs free hb fb has =
    let head = head_code Btfsc test (first_label n) in
    let h = n + length head in
    let ys = holds h in
    let j = h + length ys in
    let held = head ++ ys in
    let out = held ++ goto_code (second_label n) in
    let middle = out ++ label_code (first_label n) in
    let k = n + length middle in
    let ns = fails k in
    let both = middle ++ ns in
    let l1 = label_code (first_label n) in
    let l2 = label_code (second_label n) in
    let g2 = goto_code (second_label n) in
    let q1 = len_append test (skip_code Btfsc (first_label n)) in
    let q2 = len_append head ys in
    let q3 = len_append held g2 in
    let q4 = len_append out l1 in
    let q5 = len_append middle ns in
    let lj : n + length held ≡ j = omega (arith, q2) in
    let lo : n + length out ≡ suc j = omega (arith, q2, q3) in
    let lk : k ≡ suc (suc j) = omega (arith, q2, q3, q4) in
    let lz : n + length both ≡ k + length ns = omega (arith, q5) in
    let hboth = has_front b n both l2 has in
    let hmid = has_front b n middle ns hboth in
    let hout = has_front b n out l1 hmid in
    let hheld = has_front b n held g2 hout in
    let he : slice_get b (n + length both) ≡ Some (syms.Label (second_label n)) = (has_back b n both l2 has).0 in
    let ho : slice_get b (n + length out) ≡ Some (syms.Label (first_label n)) = (has_back b n out l1 hmid).0 in
    let ahead : (m : ℕ) → Absent m head = λ m. free_absent m head (free_append test (skip_code Btfsc (first_label n)) free refl) in
    let ays : (m : ℕ) → m < 2 * h → Absent m ys = λ m lt. absent_under (2 * h) h m ys lt (hb h) in
    let ab1 : Absent (2 * n) out = absent_append (2 * n) held g2 (absent_append (2 * n) head ys (ahead (2 * n)) (ays (2 * n) (omega (arith, q1)))) (refl, tt) in
    let ab2 : Absent (2 * n + 1) both =
    absent_append (2 * n + 1) middle ns
    (absent_append (2 * n + 1) out l1
    (absent_append (2 * n + 1) held g2 (absent_append (2 * n + 1) head ys (ahead (2 * n + 1)) (ays (2 * n + 1) (omega (arith, q1)))) (refl, tt))
    (differs (2 * n) (2 * n + 1) (λ e. omega arith), tt))
    (absent_under (2 * k) k (2 * n + 1) ns (omega arith) (fb k)) in
    record {
      head = has_front b n head ys hheld;
      holds = has_back b n head ys hheld;
      out = get_at b (n + length held) j _ lj (has_back b n held g2 hout).0;
      other = get_at b (n + length out) (suc j) _ lo ho;
      next = lk;
      fails = has_back b n middle ns hboth;
      end = get_at b (n + length both) (k + length ns) _ lz he;
      found_first = found_at b n out (2 * n) bs (omega arith) ab1 hout ho ∙ ap Some lo;
      found_second = found_at b n both (2 * n + 1) bs (omega arith) ab2 hboth he ∙ ap Some lz;
    }

pub if_length : (n : ℕ) (test : List Sym) (holds fails : ℕ → List Sym) → (let k = n + length (middle_code n test holds) in n + length (if_code Whole n test holds fails) ≡ suc (k + length (fails k)))
if_length n test holds fails =
    let middle = middle_code n test holds in
    let ns = fails (n + length middle) in
    let q = len_append (middle ++ ns) (label_code (second_label n)) in
    let r = len_append middle ns in
    omega (arith, q, r)
