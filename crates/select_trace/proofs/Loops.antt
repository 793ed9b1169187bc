-- Loops: their turns, and the ways out of them and back to their tops.
use Rattle.std.proofs.Common.{◌≡◌, ◌⊎◌, inl, inr, ℕ, zero, suc, ◌+◌, ◌*◌, Bool, true, false, cond, List, [], ◌∷◌, ◌++◌, length, Option, Some, None, slice_get, option_map, refl, sym, ap, ◌∙◌, subst, arith}
use Rattle.pic_world.specs.World.{World}
use Rattle.core_code.specs.Bytes as bytes
use Rattle.core_code.specs.Bytes.{Held}
use Rattle.core_code.specs.Machine.{Task, Do, Waiting, InLoop, InCall, InHandler, tasks, exit, again, at_end}
use Rattle.core_code.specs.Tree.{Tree, Trees, Set, Address, Copy, Load, Store, Unary, Binary, Convert, BitRead, BitWrite, Call, Leave, Many, If, Loop, Exit, Again, NoTree, AndTree, list_of}
use Rattle.sym_code.specs.Effect.{Memory}
use Rattle.sym_code.specs.Machine.{Machine}
use Rattle.sym_code.specs.Programs.{Position, label_from}
use Rattle.sym_code.specs.Registers.{Registers, Fits}
use Rattle.sym_code.specs.declared.code.BlockName.TheVariants as names
use Rattle.sym_code.specs.declared.code.Sym.{Sym}
use Rattle.sym_code.specs.declared.code.Sym.TheVariants as syms
use Rattle.sym_code.specs.declared.code.Target.TheVariants as targets
use Rattle.select_code.specs.Pieces.{first_label, second_label, goto_code}
use Rattle.select_code.specs.Selected.{goes_to, turned, loop_code, short_turn, short_list, is_exit, first_code, turn_code}
use Rattle.select_wide.specs.Links.{sets_bytes, all_set_bytes}
use Rattle.select_trace.proofs.Truths.{and_left, and_right}
use Rattle.select_trace.proofs.Standing.{Has, has_front, has_back}
use Rattle.select_trace.proofs.Labels.{len_append, Bounds}
use Rattle.select_trace.proofs.Bounding.{code_bounds, first_bounds, turned_bounds}
use Rattle.select_trace.proofs.Parts.{loop_top, loop_last, loop_turn, loop_end, loop_length}
use Rattle.select_trace.proofs.Sites.{Site}
use Rattle.select_trace.proofs.Machines.{at, Calm}
use Rattle.select_trace.proofs.Live.{IsUser, chain_user}
use Rattle.select_trace.proofs.Blocks.{block, code, parts, wide, ending, free_at, bounds}
use Rattle.select_trace.proofs.Relation.{Ends, Falls, FallsIn, Left, Went, weaken, After}
use Rattle.select_trace.proofs.Steps.{thread, machine, Fit, dear, jump, jump_counted, past}
use Rattle.select_trace.proofs.Control.{left_to, left_goes, exit_is}

-- a turn of the loop that begins at l
abbrev pub turn : Site → ℕ → List ℕ → ℕ → Tree → List Sym
turn s f ls l body = turn_code (wide s f) (ending s f) (l ∷ ls) (l + 1) body (first_label l)

some_list : (a b : List Sym) → Some a ≡ Some b → a ≡ b
some_list a b e = cc

some_same : (a b : ℕ) → Some a ≡ Some b → a ≡ b
some_same a b q = cc

pub turn_bounds : (s : Site) (f : ℕ) (ls : List ℕ) (l : ℕ) (body : Tree) → Bounds (2 * (l + 1)) (l + 1) (turn s f ls l body)
turn_bounds s f ls l body =
    turned_bounds (option_map (λ count. first_code (wide s f) (ending s f) (l ∷ ls) (l + 1) count body) (short_turn body)) (l + 1) (code s f (l ∷ ls) (l + 1) [] body) (first_label l)
    (λ x e. by (short_turn body) x e) (code_bounds (wide s f) (free_at s f) (ending s f) (l ∷ ls) (l + 1) [] body)
  where
    by : (o : Option ℕ) (x : List Sym) → option_map (λ count. first_code (wide s f) (ending s f) (l ∷ ls) (l + 1) count body) o ≡ Some x → Bounds (2 * (l + 1)) (l + 1) x
    by None x e = absurd (cc)
    by (Some c) x e = subst (λ y. Bounds (2 * (l + 1)) (l + 1) y) (some_list _ x e) (first_bounds (wide s f) (free_at s f) (ending s f) (l ∷ ls) (l + 1) c body)

-- where the label behind a loop is found
pub behind_found : (s : Site) (f : ℕ) → IsUser s f → (ls : List ℕ) (l : ℕ) (body : Tree) → Has (block s f) l (loop_code l (turn s f ls l body)) → label_from (block s f) (second_label l) 0 ≡ Some (suc l + length (turn s f ls l body))
behind_found s f u ls l body h = loop_end (block s f) l (turn s f ls l body) (bounds s f u) (turn_bounds s f ls l body) h

no_count : (n : ℕ) → ◌≡◌ {A = Option ℕ} None (Some n) → ⊥
no_count n e = absurd (cc)

-- a turn of a loop begins
pub turn_left : (s : Site) (f : ℕ) → IsUser s f → (l : ℕ) (ls : List ℕ) (body : Tree) → sets_bytes body ≡ true → Has (block s f) l (loop_code l (turn s f ls l body)) → Left s f (l ∷ ls) (l + 1) (Do [] body ∷ [])
turn_left s f u l ls body sets h =
    (sets, by (short_turn body) refl (loop_turn (block s f) l (turn s f ls l body) h) (behind_found s f u ls l body h ∙ ap (λ k. Some (k + length (turn s f ls l body))) (let q : suc l ≡ l + 1 = omega arith in q)))
  where
    first : ℕ → Tree → List Sym
    first count x = first_code (wide s f) (ending s f) (l ∷ ls) (l + 1) count x

    short : (x : Tree) (count : ℕ) → short_turn x ≡ Some count → Has (block s f) (l + 1) (first_code (wide s f) (ending s f) (l ∷ ls) (l + 1) count x)
        → label_from (block s f) (second_label l) 0 ≡ Some (l + 1 + length (first_code (wide s f) (ending s f) (l ∷ ls) (l + 1) count x)) → FallsIn s f l ls (l + 1) x
    short (Many ts) count q k e = (count, q, k, e)
    short (Set a b) count q k e = absurd (no_count count q)
    short (Address a b) count q k e = absurd (no_count count q)
    short (Copy a b) count q k e = absurd (no_count count q)
    short (Load a b c) count q k e = absurd (no_count count q)
    short (Store a b c) count q k e = absurd (no_count count q)
    short (Unary a b c) count q k e = absurd (no_count count q)
    short (Binary a b c d g) count q k e = absurd (no_count count q)
    short (Convert a b c) count q k e = absurd (no_count count q)
    short (BitRead a b c) count q k e = absurd (no_count count q)
    short (BitWrite a b c) count q k e = absurd (no_count count q)
    short (Call a) count q k e = absurd (no_count count q)
    short Leave count q k e = absurd (no_count count q)
    short (If a b c d) count q k e = absurd (no_count count q)
    short (Loop a) count q k e = absurd (no_count count q)
    short (Exit a) count q k e = absurd (no_count count q)
    short (Again a) count q k e = absurd (no_count count q)

    by : (o : Option ℕ) → short_turn body ≡ o
        → Has (block s f) (l + 1) (turned (option_map (λ count. first_code (wide s f) (ending s f) (l ∷ ls) (l + 1) count body) o) (code s f (l ∷ ls) (l + 1) [] body) (first_label l))
        → label_from (block s f) (second_label l) 0 ≡ Some (l + 1 + length (turned (option_map (λ count. first_code (wide s f) (ending s f) (l ∷ ls) (l + 1) count body) o) (code s f (l ∷ ls) (l + 1) [] body) (first_label l)))
        → (Has (block s f) (l + 1) (code s f (l ∷ ls) (l + 1) [] body) × Left s f (l ∷ ls) (l + 1 + length (code s f (l ∷ ls) (l + 1) [] body)) []) ⊎ Falls s f (l ∷ ls) (l + 1) body
    by (Some count) q k e = inr (short body count q k e)
    by None q k e =
        let c = code s f (l ∷ ls) (l + 1) [] body in
        inl (has_front (block s f) (l + 1) c (goto_code (first_label l)) k, (has_back (block s f) (l + 1) c (goto_code (first_label l)) k).0)

-- what is left of a short turn
pub falls_left : (s : Site) (f l : ℕ) (ls : List ℕ) (ts : Trees) (count : ℕ) (before : List Tree) (n : ℕ) (c : List Task) → all_set_bytes ts ≡ true → short_list (list_of ts) ≡ Some count
    → Has (block s f) n (parts s f (l ∷ ls) n before ts count) → label_from (block s f) (second_label l) 0 ≡ Some (n + length (parts s f (l ∷ ls) n before ts count)) → Left s f (l ∷ ls) n (tasks before (list_of ts) c)
falls_left s f l ls NoTree count before n c sets q h k = absurd (no_count count q)
falls_left s f l ls (AndTree x NoTree) count before n c sets q h k =
    let z = last_is x count q in
    let k' : label_from (block s f) (second_label l) 0 ≡ Some (n + 0) = subst (λ j. label_from (block s f) (second_label l) 0 ≡ Some (n + length (parts s f (l ∷ ls) n before (AndTree x NoTree) j))) z.1 k in
    subst (λ y. Left s f (l ∷ ls) n (Do before y ∷ c)) (sym (exit_is x z.0)) (refl, inr (k' ∙ ap Some (omega arith)))
  where
    last_is : (x : Tree) (count : ℕ) → cond (is_exit x) (Some 0) None ≡ Some count → (is_exit x ≡ true) × (count ≡ 0)
    last_is x count q = by (is_exit x) refl q
      where
        by : (b : Bool) → is_exit x ≡ b → cond b (Some 0) None ≡ Some count → (is_exit x ≡ true) × (count ≡ 0)
        by true e q = (e, sym (some_same 0 count q))
        by false e q = absurd (no_count count q)
falls_left s f l ls (AndTree x (AndTree y ys)) zero before n c sets q h k = absurd (none_zero (short_list (list_of (AndTree y ys))) q)
  where
    none_zero : (o : Option ℕ) → option_map (λ (count : ℕ). suc count) o ≡ Some 0 → ⊥
    none_zero None q = no_count 0 q
    none_zero (Some j) q = let z : suc j ≡ 0 = some_same (suc j) 0 q in absurd (omega (arith, z))
falls_left s f l ls (AndTree x (AndTree y ys)) (suc count) before n c sets q h k =
    let a = code s f (l ∷ ls) n before x in
    let rest = parts s f (l ∷ ls) (n + length a) (before ++ x ∷ []) (AndTree y ys) count in
    let len = len_append a rest in (
      and_left (sets_bytes x) (all_set_bytes (AndTree y ys)) sets,
      inl (
        has_front (block s f) n a rest h,
        falls_left s f l ls (AndTree y ys) count (before ++ x ∷ []) (n + length a) c (and_right (sets_bytes x) (all_set_bytes (AndTree y ys)) sets) (less (short_list (list_of (AndTree y ys))) count q) (has_back (block s f) n a rest h)
            (k ∙ ap Some (omega (arith, len))),
      ),
    )
  where
    less : (o : Option ℕ) (count : ℕ) → option_map (λ (count : ℕ). suc count) o ≡ Some (suc count) → o ≡ Some count
    less None count q = absurd (no_count (suc count) q)
    less (Some j) count q = let z : suc j ≡ suc count = some_same (suc j) (suc count) q in ap Some (omega (arith, z))

module _ (s : Site) (t : Machine) (wc : World Held) (calm : Calm s wc) (ps : List Position) (cm : bytes.Memory) (m : Memory) (f : ℕ) (pr : Option ℕ) where
  pub fit_out : (body : Tree) (c : List Task) (st : List Waiting) (l : ℕ) (ls : List ℕ) → Fit s t wc f pr (InLoop body c ∷ st) (l ∷ ls) ps cm m → Fit s t wc f pr st ls ps cm m
  fit_out body c st l ls fit = record { inside = fit.inside; control = fit.control; agree = fit.agree; bytes = fit.bytes; passing = fit.passing; chain = fit.chain; root = fit.root; level = fit.level; frames = fit.frames.3 }

  user_of : (st : List Waiting) (loops : List ℕ) → Fit s t wc f pr st loops ps cm m → IsUser s f
  user_of st loops fit = chain_user s f st fit.chain

  -- back to the top of a loop
  pub top_goes : (body : Tree) (c : List Task) (st : List Waiting) (l : ℕ) (ls : List ℕ) (n : ℕ) (r : Registers) → Fits r → Fit s t wc f pr (InLoop body c ∷ st) (l ∷ ls) ps cm m → slice_get (block s f) n ≡ Some (syms.Goto (targets.Label (first_label l)))
      → Went s (at s t (thread s f n ps r) m wc) (machine f pr (Do [] body ∷ []) (InLoop body c ∷ st) cm wc) 1 4
  top_goes body c st l ls n r fits fit h =
      let u = user_of (InLoop body c ∷ st) (l ∷ ls) fit in
      let hl : Has (block s f) l (loop_code l (turn s f ls l body)) = fit.frames.1 in
      let d = machine f pr (Do [] body ∷ []) (InLoop body c ∷ st) cm wc in
      weaken s (at s t (thread s f n ps r) m wc) d 1 (s.price (names.Copy f) n + 0) 1 4 (omega arith) (dear s f u n 4 (goto_code (first_label l)) (h, tt) refl (omega arith))
      (jump_counted s t wc calm f ps u n r m (2 * l) l d 0 0 (omega arith) h (loop_top (block s f) l (turn s f ls l body) (bounds s f u) hl) hl.0
      (past s t wc calm f ps l r m (2 * l) d 0 0 hl.0
      (left_goes s t wc calm f pr (InLoop body c ∷ st) (l ∷ ls) ps cm m fit (suc l) r (Do [] body ∷ []) fits
      (left_to s f (l ∷ ls) (l + 1) (suc l) (Do [] body ∷ []) (omega arith) (turn_left s f u l ls body fit.frames.0 hl)))))

  -- behind a loop
  behind_goes : (body : Tree) (c : List Task) (st : List Waiting) (l : ℕ) (ls : List ℕ) (r : Registers) → Fits r → Fit s t wc f pr (InLoop body c ∷ st) (l ∷ ls) ps cm m
      → Went s (at s t (thread s f (suc l + length (turn s f ls l body)) ps r) m wc) (machine f pr c st cm wc) 0 0
  behind_goes body c st l ls r fits fit =
      let hl : Has (block s f) l (loop_code l (turn s f ls l body)) = fit.frames.1 in
      let tl = turn s f ls l body in
      past s t wc calm f ps (suc l + length tl) r m (2 * l + 1) (machine f pr c st cm wc) 0 0 (loop_last (block s f) l tl hl)
      (left_goes s t wc calm f pr st ls ps cm m (fit_out body c st l ls fit) (suc (suc l + length tl)) r c fits (left_to s f ls (l + length (loop_code l tl)) (suc (suc l + length tl)) c (loop_length l tl) fit.frames.2))

  out_goes : (body : Tree) (c : List Task) (st : List Waiting) (l : ℕ) (ls : List ℕ) (n : ℕ) (r : Registers) → Fits r → Fit s t wc f pr (InLoop body c ∷ st) (l ∷ ls) ps cm m → slice_get (block s f) n ≡ Some (syms.Goto (targets.Label (second_label l)))
      → Went s (at s t (thread s f n ps r) m wc) (machine f pr c st cm wc) 0 4
  out_goes body c st l ls n r fits fit h =
      let u = user_of (InLoop body c ∷ st) (l ∷ ls) fit in
      let hl : Has (block s f) l (loop_code l (turn s f ls l body)) = fit.frames.1 in
      let d = machine f pr c st cm wc in
      let tl = turn s f ls l body in
      weaken s (at s t (thread s f n ps r) m wc) d 0 (s.price (names.Copy f) n + 0) 0 4 (omega arith) (dear s f u n 4 (goto_code (second_label l)) (h, tt) refl (omega arith))
      (jump s t wc calm f ps u n r m (2 * l + 1) (suc l + length tl) d 0 0 h (behind_found s f u ls l body hl) (loop_last (block s f) l tl hl)
      (behind_goes body c st l ls r fits fit))

  -- the end of a short turn
  fall_goes : (st : List Waiting) (l : ℕ) (ls : List ℕ) (n : ℕ) (r : Registers) → Fits r → Fit s t wc f pr st (l ∷ ls) ps cm m → label_from (block s f) (second_label l) 0 ≡ Some n → After s 0 4 (exit 0 f pr st cm wc) (at s t (thread s f n ps r) m wc)
  fall_goes [] l ls n r fits fit h = tt
  fall_goes (InCall q c ∷ st) l ls n r fits fit h = tt
  fall_goes (InHandler q x c ∷ st) l ls n r fits fit h = tt
  fall_goes (InLoop body c ∷ st) l ls n r fits fit h =
      let u = user_of (InLoop body c ∷ st) (l ∷ ls) fit in
      let hl : Has (block s f) l (loop_code l (turn s f ls l body)) = fit.frames.1 in
      let here : suc l + length (turn s f ls l body) ≡ n = some_same _ n (sym (behind_found s f u ls l body hl) ∙ h) in
      let d = machine f pr c st cm wc in
      subst (λ k. Went s (at s t (thread s f k ps r) m wc) d 0 4) here
      (weaken s (at s t (thread s f (suc l + length (turn s f ls l body)) ps r) m wc) d 0 0 0 4 (omega arith) (omega arith) (behind_goes body c st l ls r fits fit))

  pub exit_goes : (k : ℕ) (st : List Waiting) (loops : List ℕ) (n : ℕ) (r : Registers) → Fits r → Fit s t wc f pr st loops ps cm m → Has (block s f) n (goes_to (option_map second_label (slice_get loops k)))
      → After s 0 4 (exit k f pr st cm wc) (at s t (thread s f n ps r) m wc)
  exit_goes zero [] loops n r fits fit h = tt
  exit_goes zero (InCall q c ∷ st) loops n r fits fit h = tt
  exit_goes zero (InHandler q x c ∷ st) loops n r fits fit h = tt
  exit_goes zero (InLoop body c ∷ st) [] n r fits fit h = absurd fit.frames
  exit_goes zero (InLoop body c ∷ st) (l ∷ ls) n r fits fit h = out_goes body c st l ls n r fits fit h.0
  exit_goes (suc k) [] loops n r fits fit h = tt
  exit_goes (suc k) (InCall q c ∷ st) loops n r fits fit h = tt
  exit_goes (suc k) (InHandler q x c ∷ st) loops n r fits fit h = tt
  exit_goes (suc k) (InLoop body c ∷ st) [] n r fits fit h = absurd fit.frames
  exit_goes (suc k) (InLoop body c ∷ st) (l ∷ ls) n r fits fit h = exit_goes k st ls n r fits (fit_out body c st l ls fit) h

  pub again_goes : (k : ℕ) (st : List Waiting) (loops : List ℕ) (n : ℕ) (r : Registers) → Fits r → Fit s t wc f pr st loops ps cm m → Has (block s f) n (goes_to (option_map first_label (slice_get loops k)))
      → After s 1 4 (again k f pr st cm wc) (at s t (thread s f n ps r) m wc)
  again_goes zero [] loops n r fits fit h = tt
  again_goes zero (InCall q c ∷ st) loops n r fits fit h = tt
  again_goes zero (InHandler q x c ∷ st) loops n r fits fit h = tt
  again_goes zero (InLoop body c ∷ st) [] n r fits fit h = absurd fit.frames
  again_goes zero (InLoop body c ∷ st) (l ∷ ls) n r fits fit h = top_goes body c st l ls n r fits fit h.0
  again_goes (suc k) [] loops n r fits fit h = tt
  again_goes (suc k) (InCall q c ∷ st) loops n r fits fit h = tt
  again_goes (suc k) (InHandler q x c ∷ st) loops n r fits fit h = tt
  again_goes (suc k) (InLoop body c ∷ st) [] n r fits fit h = absurd fit.frames
  again_goes (suc k) (InLoop body c ∷ st) (l ∷ ls) n r fits fit h = again_goes k st ls n r fits (fit_out body c st l ls fit) h

  pub end_goes : (st : List Waiting) (loops : List ℕ) (n : ℕ) (r : Registers) → Fits r → Fit s t wc f pr st loops ps cm m → Ends s f loops n → After s 1 4 (at_end f pr st cm wc) (at s t (thread s f n ps r) m wc)
  end_goes [] loops n r fits fit h = tt
  end_goes (InCall q c ∷ st) loops n r fits fit h = tt
  end_goes (InHandler q x c ∷ st) loops n r fits fit h = tt
  end_goes (InLoop body c ∷ st) [] n r fits fit h = absurd fit.frames
  end_goes (InLoop body c ∷ st) (l ∷ ls) n r fits fit h = top_goes body c st l ls n r fits fit h

  pub loop_goes : (st : List Waiting) (loops : List ℕ) (body : Tree) (n : ℕ) (r : Registers) (c : List Task) → Fits r → Fit s t wc f pr st loops ps cm m → sets_bytes body ≡ true → Has (block s f) n (code s f loops n [] (Loop body)) → Left s f loops (n + length (code s f loops n [] (Loop body))) c
      → Went s (at s t (thread s f n ps r) m wc) (machine f pr (Do [] body ∷ []) (InLoop body c ∷ st) cm wc) 0 0
  loop_goes st loops body n r c fits fit sets h l =
      let fit' : Fit s t wc f pr (InLoop body c ∷ st) (n ∷ loops) ps cm m =
      record { inside = fit.inside; control = fit.control; agree = fit.agree; bytes = fit.bytes; passing = fit.passing; chain = fit.chain; root = fit.root; level = fit.level; frames = (sets, h, l, fit.frames) } in
      past s t wc calm f ps n r m (2 * n) (machine f pr (Do [] body ∷ []) (InLoop body c ∷ st) cm wc) 0 0 h.0
      (left_goes s t wc calm f pr (InLoop body c ∷ st) (n ∷ loops) ps cm m fit' (suc n) r (Do [] body ∷ []) fits
      (left_to s f (n ∷ loops) (n + 1) (suc n) (Do [] body ∷ []) (omega arith) (turn_left s f (user_of st loops fit) n loops body sets h)))

  -- the last operation of a short turn
  pub falls_exit : (st : List Waiting) (l : ℕ) (ls : List ℕ) (n : ℕ) (r : Registers) → Fits r → Fit s t wc f pr st (l ∷ ls) ps cm m → label_from (block s f) (second_label l) 0 ≡ Some n → After s 0 4 (exit 0 f pr st cm wc) (at s t (thread s f n ps r) m wc)
  falls_exit st l ls n r fits fit h = fall_goes st l ls n r fits fit h

  pub falls_many : (st : List Waiting) (l : ℕ) (ls : List ℕ) (ts : Trees) (n : ℕ) (r : Registers) (c : List Task) → Fits r → Fit s t wc f pr st (l ∷ ls) ps cm m → all_set_bytes ts ≡ true → FallsIn s f l ls n (Many ts)
      → Went s (at s t (thread s f n ps r) m wc) (machine f pr (tasks [] (list_of ts) c) st cm wc) 0 0
  falls_many st l ls ts n r c fits fit sets h = left_goes s t wc calm f pr st (l ∷ ls) ps cm m fit n r (tasks [] (list_of ts) c) fits (falls_left s f l ls ts h.0 [] n c sets h.1 h.2 h.3)
