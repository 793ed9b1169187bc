-- Lists that wait for their replacement: what the three steps of the loop do to them.
use Rattle.std.proofs.Common.{ℕ, zero, suc, ◌+◌, ◌-◌, ◌<◌, ◌≤◌, ◌≡◌, Bool, true, false, Option, Some, None, List, [], ◌∷◌, ◌++◌, length, get_or, set, replicate, arith, ap, ap₂, sym, ◌∙◌, subst, refl, append_assoc, length-append, reverse}
use Rattle.std.proofs.lemmas.List.{reverse-append, get_or-map, length-set, length-map}
use Rattle.c_pre.specs.declared.replace.Frame.{Frame}
use Rattle.c_pre.specs.declared.directive.Definition.{Definition}
use Rattle.c_pre.specs.Directive.{table_of, entry_of}
use Rattle.std.specs.Prelude.{All}
use Rattle.std.proofs.lemmas.List.Elements.{All-push}
use Rattle.c_pre.specs.Replace.{Left, Replaced, at_line, list_at, unmarked, free_count, IsInStep, IsMark}
use Rattle.c_pre.specs.LookedUp.{Lists, lists_of, open_at, tokens_at, replace_named, replace_list, pending, waiting, cleared}
use Rattle.c_pre.specs.declared.names.Named.{Named}
use Rattle.std.specs.declared.vec.Vec.{Vec}
use Rattle.std.specs.declared.alloc.Global.{Global}

-- marks

pub set_back : (bs : List Bool) (k : ℕ) → get_or bs k false ≡ false → set (set bs k true) k false ≡ bs
set_back [] k e = refl
set_back (b ∷ bs) zero e = ap (λ x. x ∷ bs) (sym e)
set_back (b ∷ bs) (suc k) e = ap (λ xs. b ∷ xs) (set_back bs k e)

pub one_less : (bs : List Bool) (k : ℕ) → k < length bs → get_or bs k false ≡ false → free_count (set bs k true) + 1 ≡ free_count bs
one_less [] k h e = absurd (omega arith)
one_less (true ∷ bs) zero h e = cc
one_less (false ∷ bs) zero h e = omega arith
one_less (b ∷ bs) (suc k) h e = let r = one_less bs k (omega arith) e in omega arith

pub one_more : (bs : List Bool) (k : ℕ) → free_count (set bs k false) ≤ free_count bs + 1
one_more [] k = omega arith
one_more (true ∷ bs) zero = omega arith
one_more (false ∷ bs) zero = omega arith
one_more (b ∷ bs) (suc k) = let r = one_more bs k in omega arith

pub all_free : (n : ℕ) → free_count (replicate n false) ≡ n
all_free zero = refl
all_free (suc n) = let r = all_free n in omega arith

module _ (lists : Lists) (line : ℕ) where
  pub nothing_left : (depth : ℕ) (busy : List Bool) → replace_list depth lists line busy [] ≡ []
  unfolding replace_list
  nothing_left zero busy = refl
  nothing_left (suc depth) busy = refl

  pub one_left : (depth : ℕ) (busy : List Bool) (t : Named) (ts : List Named) → open_at busy t.definition ≡ None → replace_list depth lists line busy (t ∷ ts) ≡ Left (at_line line t.token) ∷ replace_list depth lists line busy ts
  unfolding replace_list
  one_left zero busy t ts e = refl
  one_left (suc depth) busy t ts e = ap (λ o. replace_named (replace_list depth lists line) lists busy line t o ++ replace_list (suc depth) lists line busy ts) e

  pub one_replaced : (depth : ℕ) (busy : List Bool) (t : Named) (ts : List Named) (k : ℕ) → open_at busy t.definition ≡ Some k → replace_list (suc depth) lists line busy (t ∷ ts) ≡ (Replaced line ∷ replace_list depth lists line (set busy k true) (tokens_at lists k)) ++ replace_list (suc depth) lists line busy ts
  unfolding replace_list
  one_replaced depth busy t ts k e = ap (λ o. replace_named (replace_list depth lists line) lists busy line t o ++ replace_list (suc depth) lists line busy ts) e

  pub pending_done : (depth : ℕ) (busy : List Bool) (f : Frame) (below : List Frame) → f.rest.now ≡ [] → pending depth lists line busy (f ∷ below) ≡ pending (suc depth) lists line (unmarked busy f.definition) below
  unfolding pending
  pending_done depth busy f below e =
      ap (λ ts. replace_list depth lists line busy ts ++ pending (suc depth) lists line (unmarked busy f.definition) below) e
      ∙ ap (λ es. es ++ pending (suc depth) lists line (unmarked busy f.definition) below) (nothing_left depth busy)

  pub pending_left : (depth : ℕ) (busy : List Bool) (f g : Frame) (below : List Frame) (t : Named) (ts : List Named) → f.rest.now ≡ t ∷ ts → g.rest.now ≡ ts → g.definition ≡ f.definition → open_at busy t.definition ≡ None → pending depth lists line busy (f ∷ below) ≡ Left (at_line line t.token) ∷ pending depth lists line busy (g ∷ below)
  unfolding pending
  pending_left depth busy f g below t ts e r d o =
      ap (λ xs. replace_list depth lists line busy xs ++ pending (suc depth) lists line (unmarked busy f.definition) below) e
      ∙ ap (λ xs. xs ++ pending (suc depth) lists line (unmarked busy f.definition) below) (one_left depth busy t ts o)
      ∙ ap₂ (λ xs k. Left (at_line line t.token) ∷ (replace_list depth lists line busy xs ++ pending (suc depth) lists line (unmarked busy k) below)) (sym r) (sym d)

  pub pending_replaced : (depth : ℕ) (busy : List Bool) (f g n : Frame) (below : List Frame) (t : Named) (ts : List Named) (k : ℕ) → f.rest.now ≡ t ∷ ts → g.rest.now ≡ ts → g.definition ≡ f.definition → open_at busy t.definition ≡ Some k → get_or busy k false ≡ false → n.rest.now ≡ tokens_at lists k → n.definition ≡ Some k → pending (suc depth) lists line busy (f ∷ below) ≡ Replaced line ∷ pending depth lists line (set busy k true) (n ∷ g ∷ below)
  unfolding pending
  pending_replaced depth busy f g n below t ts k e r d o free list mark =
      let tail = λ (b : List Bool) (m : Option ℕ). pending (suc (suc depth)) lists line (unmarked b m) below in
      let back : unmarked (set busy k true) n.definition ≡ busy = ap (unmarked (set busy k true)) mark ∙ set_back busy k free in
      ap (λ xs. replace_list (suc depth) lists line busy xs ++ tail busy f.definition) e
      ∙ ap (λ xs. xs ++ tail busy f.definition) (one_replaced depth busy t ts k o)
      ∙ append_assoc (Replaced line ∷ replace_list depth lists line (set busy k true) (tokens_at lists k)) (replace_list (suc depth) lists line busy ts) (tail busy f.definition)
      ∙ ap₂ (λ xs m. (Replaced line ∷ replace_list depth lists line (set busy k true) (tokens_at lists k)) ++ (replace_list (suc depth) lists line busy xs ++ tail busy m)) (sym r) (sym d)
      ∙ ap₂ (λ xs b. (Replaced line ∷ replace_list depth lists line (set busy k true) xs) ++ (replace_list (suc depth) lists line b g.rest.now ++ tail b g.definition)) (sym list) (sym back)

  deep : (stack : List Frame) (f : Frame) → length stack ≤ length lists → length lists + 1 - length (stack ++ f ∷ []) ≡ length lists - length stack
  deep stack f h = omega (arith, length-append stack (f ∷ []))

  turned : (stack : List Frame) (f : Frame) (busy : List Bool) → length stack ≤ length lists → waiting lists line busy (stack ++ f ∷ []) ≡ pending (length lists - length stack) lists line busy (f ∷ reverse stack)
  turned stack f busy h = ap₂ (λ d xs. pending d lists line busy xs) (deep stack f h) (reverse-append stack (f ∷ []))

  pub waiting_done : (stack : List Frame) (f : Frame) (busy : List Bool) → length stack ≤ length lists → f.rest.now ≡ [] → waiting lists line busy (stack ++ f ∷ []) ≡ waiting lists line (unmarked busy f.definition) stack
  waiting_done stack f busy h e =
      turned stack f busy h ∙ pending_done (length lists - length stack) busy f (reverse stack) e
      ∙ ap (λ d. pending d lists line (unmarked busy f.definition) (reverse stack)) (let s : suc (length lists - length stack) ≡ length lists + 1 - length stack = omega arith in s)

  pub waiting_left : (stack : List Frame) (f g : Frame) (busy : List Bool) (t : Named) (ts : List Named) → length stack ≤ length lists → f.rest.now ≡ t ∷ ts → g.rest.now ≡ ts → g.definition ≡ f.definition → open_at busy t.definition ≡ None → waiting lists line busy (stack ++ f ∷ []) ≡ Left (at_line line t.token) ∷ waiting lists line busy (stack ++ g ∷ [])
  waiting_left stack f g busy t ts h e r d o =
      turned stack f busy h ∙ pending_left (length lists - length stack) busy f g (reverse stack) t ts e r d o
      ∙ ap (λ es. Left (at_line line t.token) ∷ es) (sym (turned stack g busy h))

  deeper : (stack : List Frame) (g n : Frame) (busy : List Bool) (depth : ℕ) → length lists - length stack ≡ suc depth → waiting lists line busy ((stack ++ g ∷ []) ++ n ∷ []) ≡ pending depth lists line busy (n ∷ g ∷ reverse stack)
  deeper stack g n busy depth e =
      ap₂ (λ d xs. pending d lists line busy xs)
      (let s : length lists + 1 - length ((stack ++ g ∷ []) ++ n ∷ []) ≡ depth = omega (arith, length-append (stack ++ g ∷ []) (n ∷ []), length-append stack (g ∷ [])) in s)
      (reverse-append (stack ++ g ∷ []) (n ∷ []) ∙ ap (λ xs. n ∷ xs) (reverse-append stack (g ∷ [])))

  pub waiting_replaced : (stack : List Frame) (f g n : Frame) (busy : List Bool) (t : Named) (ts : List Named) (k : ℕ) → free_count busy + length stack ≤ length lists → k < length busy → f.rest.now ≡ t ∷ ts → g.rest.now ≡ ts → g.definition ≡ f.definition → open_at busy t.definition ≡ Some k → get_or busy k false ≡ false → n.rest.now ≡ tokens_at lists k → n.definition ≡ Some k → waiting lists line busy (stack ++ f ∷ []) ≡ Replaced line ∷ waiting lists line (set busy k true) ((stack ++ g ∷ []) ++ n ∷ [])
  waiting_replaced stack f g n busy t ts k h i e r d o free list mark =
      let less = one_less busy k i free in
      let depth : ℕ = length lists - length stack - 1 in
      let s : length lists - length stack ≡ suc depth = omega (arith, less) in
      turned stack f busy (omega arith) ∙ ap (λ m. pending m lists line busy (f ∷ reverse stack)) s
      ∙ pending_replaced depth busy f g n (reverse stack) t ts k e r d o free list mark
      ∙ ap (λ es. Replaced line ∷ es) (sym (deeper stack g n (set busy k true) depth s))

unmarked_length : (busy : List Bool) (d : Option ℕ) → length (unmarked busy d) ≡ length busy
unmarked_length busy None = refl
unmarked_length busy (Some k) = length-set busy k false

unmarked_free : (busy : List Bool) (d : Option ℕ) → free_count (unmarked busy d) ≤ free_count busy + 1
unmarked_free busy None = omega arith
unmarked_free busy (Some k) = one_more busy k

pub in_step_done : (size : ℕ) (busy new : List Bool) (f : Frame) (stack : List Frame) → new ≡ unmarked busy f.definition → IsInStep size busy (f ∷ stack) → IsInStep size new stack
in_step_done size busy new f stack e s = subst (λ b. IsInStep size b stack) (sym e) (unmarked_length busy f.definition ∙ s.0, omega (arith, unmarked_free busy f.definition, s.1))

pub in_step_replaced : (size : ℕ) (busy : List Bool) (f g n : Frame) (stack : List Frame) (k : ℕ) → k < length busy → get_or busy k false ≡ false → IsInStep size busy (f ∷ stack) → IsInStep size (set busy k true) ((stack ++ g ∷ []) ++ n ∷ [])
in_step_replaced size busy f g n stack k h e s = (length-set busy k true ∙ s.0, omega (arith, one_less busy k h e, s.1, length-append (stack ++ g ∷ []) (n ∷ []), length-append stack (g ∷ [])))

pub marks_two : (size : ℕ) (stack : List Frame) (g n : Frame) → All (IsMark size) stack → IsMark size g → IsMark size n → All (IsMark size) ((stack ++ g ∷ []) ++ n ∷ [])
marks_two size stack g n a x y = All-push (IsMark size) (stack ++ g ∷ []) n (All-push (IsMark size) stack g a x) y

pub list_of_definition : (ds : List Definition) (k : ℕ) (d : Definition) → k < length ds → (get_or ds k d).list.now ≡ list_at (table_of ds) k
list_of_definition ds k d h = sym (ap (λ e. e.1) (get_or-map entry_of ds k d ([], []) h))

pub list_of_code : (vs : List (Vec Named Global)) (k : ℕ) (d : Vec Named Global) → k < length vs → (get_or vs k d).items ≡ tokens_at (lists_of vs) k
list_of_code vs k d h = sym (get_or-map (λ (v : Vec Named Global). v.items) vs k d [] h)

pub lists_length : (vs : List (Vec Named Global)) → length (lists_of vs) ≡ length vs
lists_length vs = length-map vs (λ (v : Vec Named Global). v.items)

-- no mark is left

pub cleared_done : (stack : List Frame) (f : Frame) (busy new : List Bool) → new ≡ unmarked busy f.definition → cleared new (reverse stack) ≡ cleared busy (reverse (stack ++ f ∷ []))
cleared_done stack f busy new e = ap (λ b. cleared b (reverse stack)) e ∙ sym (ap (cleared busy) (reverse-append stack (f ∷ [])))

pub cleared_left : (stack : List Frame) (f g : Frame) (busy : List Bool) → g.definition ≡ f.definition → cleared busy (reverse (stack ++ g ∷ [])) ≡ cleared busy (reverse (stack ++ f ∷ []))
cleared_left stack f g busy d =
    ap (cleared busy) (reverse-append stack (g ∷ []))
    ∙ ap (λ m. cleared (unmarked busy m) (reverse stack)) d
    ∙ sym (ap (cleared busy) (reverse-append stack (f ∷ [])))

pub cleared_replaced : (stack : List Frame) (f g n : Frame) (busy : List Bool) (k : ℕ) → get_or busy k false ≡ false → g.definition ≡ f.definition → n.definition ≡ Some k → cleared (set busy k true) (reverse ((stack ++ g ∷ []) ++ n ∷ [])) ≡ cleared busy (reverse (stack ++ f ∷ []))
cleared_replaced stack f g n busy k free d mark =
    ap (cleared (set busy k true)) (reverse-append (stack ++ g ∷ []) (n ∷ []))
    ∙ ap (λ b. cleared b (reverse (stack ++ g ∷ []))) (ap (unmarked (set busy k true)) mark ∙ set_back busy k free)
    ∙ cleared_left stack f g busy d
