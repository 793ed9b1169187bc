-- The first of the functions whose blocks are over a page, and what the placing of blocks tells by it.
use Rattle.std.proofs.Common.{◌≡◌, ℕ, zero, suc, ◌+◌, ◌-◌, ◌^◌, ◌<◌, ◌≤◌, ◌⊎◌, inl, inr, ⊎_elim, List, [], ◌∷◌, ◌++◌, length, map, min, slice_get, take, Option, Some, None, Result, Err, Bool, refl, sym, ap, ◌∙◌, subst, arith}
use Rattle.std.proofs.Math.ListN.{get_or}
use Rattle.std.specs.Prelude.{sum, if◌then◌else◌}
use Rattle.std.specs.Global.{Global}
use Rattle.std.specs.List.{Contains}
use Rattle.std.specs.List.Sorted.{IsNonDecreasingBy, IsPermutation}
use Rattle.std.specs.declared.vec.Vec.{Vec}
use Rattle.std.proofs.lemmas.Bool.{cases_lt, lt-ltb, le-ltb}
use Rattle.std.proofs.lemmas.List.{take_more, take_all}
use Rattle.std.proofs.lemmas.List.Elements.{Contains-append_left, Contains-append_right, Contains-append_cases}
use Rattle.std.proofs.Math.Nat.{min-eq_left}
use Rattle.std.proofs.lemmas.List.Sorted.{Contains-permutation, IsPermutation-sym}
use Rattle.c_typed.specs.Nodes.{capped}
use Rattle.c_typed.specs.Trees.{Program}
use Rattle.c_typed.specs.Words.{start_size}
use Rattle.c_typed.specs.declared.calls.FnId.{FnId}
use Rattle.c_typed.specs.declared.calls.FnId.TheVariants as callee
use Rattle.c_typed.specs.declared.calls.Helper.{Helper}
use Rattle.c_typed.specs.declared.calls.Helper.TheVariants.{Mul2, Mul4, Divu2, Divs2, Remu2, Rems2, Divu4, Divs4, Remu4, Rems4, Shl2, Shru2, Shrs2, Shl4, Shru4, Shrs4}
use Rattle.call_graph.specs.Copies.{name_at}
use Rattle.call_graph.specs.declared.types.FnCopy.{FnCopy}
use Rattle.code_place.specs.Answers.{TellsPages}
use Rattle.code_place.specs.Pages.{addresses, AreWithinPages, PassesMemory}
use Rattle.code_place.specs.Pages as blocks_of
use Rattle.code_place.specs.declared.PageError.{PageError}
use Rattle.code_place.specs.declared.PageError.TheVariants as pages
use Rattle.program_code.specs.Order.{rank}
use Rattle.program_code.specs.Stated.{copy_words, sizes}
use Rattle.pic_map.specs.MapContent.{ObjectLine, FrameLine}
use Rattle.ram_place.specs.Helpers.{words}
use Rattle.ram_place.specs.Placement.{whole_below, IsPlacingIn}
use Rattle.ram_place.specs.Sizes.{block_words}
use Rattle.picc_core.specs.Accepted.{IsOver, IsFirstOver, IsFirstOverPage, PassesPages}
use Rattle.picc_core.specs.Blocks.{HasBlocks}
use Rattle.picc_core.specs.CodeAnswers.{TellsFirstOver, earlier, TellsCode, Explains, SomeIsOver, IsOfCopy, IsOfCode, IsOfCodeWithin, TellsCodeWithin}
use Rattle.picc_core.specs.Limits.{AreWithin, NoneIsOver, PassesWords}
use Rattle.picc_core.specs.declared.limits.Limits.{Limits}
use Rattle.picc_core.specs.declared.refusal.CompileError.{CompileError}
use Rattle.picc_core.specs.declared.refusal.CompileError.TheVariants.{NoMemory, Refused}
use Rattle.picc_core.specs.declared.refusal.Refusal.{Refusal}
use Rattle.picc_core.specs.declared.refusal.Refusal.TheVariants.{Lex, Word, Directive, Syntax, Typing, Recursion, Roots, Depth, Ram, Code, Page, Limit}
use Rattle.picc_core.specs.declared.stages.OverPage.{OverPage}

-- ---- one copy
at_one : (x y : FnCopy) (k : ℕ) → k < length (x ∷ []) → get_or (x ∷ []) k y ≡ y → x ≡ y
at_one x y zero below is = is
at_one x y (suc k) below is = absurd (omega (arith, below))

in_one : (x y : FnCopy) → Contains (x ∷ []) y → x ≡ y
in_one x y among = at_one x y among.0 among.1 among.2

alone : (x : FnCopy) → Contains (x ∷ []) x
alone x = (0, omega arith, refl)

user_only : (h : Helper) (n : ℕ) → callee.Helper h ≡ callee.User n → ⊥
user_only h n is = cc

pub helper_within : (most : ℕ) (p : Program) (copy : FnCopy) (h : Helper) → copy.function ≡ callee.Helper h → TellsFirstOver most p (copy ∷ []) None
helper_within most p copy h is number words over = user_only h number (sym is ∙ ap (λ (c : FnCopy). c.function) (in_one copy over.copy over.among) ∙ over.function)

pub one_within : (most : ℕ) (p : Program) (copy : FnCopy) (words : ℕ) → words ≡ copy_words p copy → words ≤ most → TellsFirstOver most p (copy ∷ []) None
one_within most p copy words stated low number more over =
    let same : more ≡ words = over.stated ∙ ap (copy_words p) (sym (in_one copy over.copy over.among)) ∙ sym stated in
    let high : most < more = over.over in
    omega (arith, same, high, low)

user_number : (m n : ℕ) → callee.User m ≡ callee.User n → m ≡ n
user_number m n is = cc

pub one_over : (most : ℕ) (p : Program) (copy : FnCopy) (found : OverPage) → copy.function ≡ callee.User found.number → found.words ≡ copy_words p copy → most < found.words → TellsFirstOver most p (copy ∷ []) (Some found)
one_over most p copy found function stated over = (
  record { copy = copy; among = alone copy; function = function; stated = stated; over = over },
  λ other more there.
      let same = user_number found.number other (sym function ∙ ap (λ (c : FnCopy). c.function) (in_one copy there.copy there.among) ∙ there.function) in
      omega (arith, same),
)

-- ---- two lists
module _ (most : ℕ) (p : Program) (xs ys : List FnCopy) where
  on_left : (number words : ℕ) → IsOver most p xs number words → IsOver most p (xs ++ ys) number words
  on_left number words over = record { copy = over.copy; among = Contains-append_left xs ys over.copy over.among; function = over.function; stated = over.stated; over = over.over }

  on_right : (number words : ℕ) → IsOver most p ys number words → IsOver most p (xs ++ ys) number words
  on_right number words over = record { copy = over.copy; among = Contains-append_right xs ys over.copy over.among; function = over.function; stated = over.stated; over = over.over }

  by_side : (number words : ℕ) → IsOver most p (xs ++ ys) number words → IsOver most p xs number words ⊎ IsOver most p ys number words
  by_side number words over =
      ⊎_elim
      (λ l. inl (record { copy = over.copy; among = l; function = over.function; stated = over.stated; over = over.over }))
      (λ r. inr (record { copy = over.copy; among = r; function = over.function; stated = over.stated; over = over.over }))
      (Contains-append_cases xs ys over.copy over.among)

  none_left : (next : Option OverPage) → TellsFirstOver most p xs None → TellsFirstOver most p ys next → TellsFirstOver most p (xs ++ ys) next
  none_left None left right = λ number words over. ⊎_elim (λ l. left number words l) (λ r. right number words r) (by_side number words over)
  none_left (Some second) left right = (
    on_right second.number second.words right.0,
    λ other more over. ⊎_elim (λ l. absurd (left other more l)) (λ r. right.1 other more r) (by_side other more over),
  )

  none_right : (first : OverPage) → TellsFirstOver most p xs (Some first) → TellsFirstOver most p ys None → TellsFirstOver most p (xs ++ ys) (Some first)
  none_right first left right = (
    on_left first.number first.words left.0,
    λ other more over. ⊎_elim (λ l. left.1 other more l) (λ r. absurd (right other more r)) (by_side other more over),
  )

  right_first : (first second : OverPage) → second.number < first.number → TellsFirstOver most p xs (Some first) → TellsFirstOver most p ys (Some second) → TellsFirstOver most p (xs ++ ys) (Some second)
  right_first first second less left right = (
    on_right second.number second.words right.0,
    λ other more over. ⊎_elim (λ l. let low = left.1 other more l in omega (arith, low, less)) (λ r. right.1 other more r) (by_side other more over),
  )

  left_first : (first second : OverPage) → first.number ≤ second.number → TellsFirstOver most p xs (Some first) → TellsFirstOver most p ys (Some second) → TellsFirstOver most p (xs ++ ys) (Some first)
  left_first first second less left right = (
    on_left first.number first.words left.0,
    λ other more over. ⊎_elim (λ l. left.1 other more l) (λ r. let low = right.1 other more r in omega (arith, low, less)) (by_side other more over),
  )

  tells_earlier : (found next : Option OverPage) → TellsFirstOver most p xs found → TellsFirstOver most p ys next → TellsFirstOver most p (xs ++ ys) (earlier found next)
  tells_earlier None next left right = none_left next left right
  tells_earlier (Some first) None left right = none_right first left right
  tells_earlier (Some first) (Some second) left right =
      ⊎_elim
      (λ less. subst (λ (b : Bool). TellsFirstOver most p (xs ++ ys) (if b then Some second else Some first)) (sym (lt-ltb second.number first.number less)) (right_first first second less left right))
      (λ more. subst (λ (b : Bool). TellsFirstOver most p (xs ++ ys) (if b then Some second else Some first)) (sym (le-ltb second.number first.number more)) (left_first first second more left right))
      (cases_lt second.number first.number)

-- ---- the loop
pub nothing_seen : (most : ℕ) (p : Program) (copies : List FnCopy) → TellsFirstOver most p (take 0 copies) None
nothing_seen most p copies number words over = none_in over.copy over.among
  where
    none_in : (y : FnCopy) → Contains [] y → ⊥
    none_in y among = let below : among.0 < 0 = among.1 in omega (arith, below)

pub one_more : (most : ℕ) (p : Program) (copies : List FnCopy) (i : ℕ) (d : FnCopy) (found next new : Option OverPage) → i < length copies → TellsFirstOver most p (take i copies) found → TellsFirstOver most p (get_or copies i d ∷ []) next → new ≡ earlier found next
    → TellsFirstOver most p (take (i + 1) copies) new
one_more most p copies i d found next new below seen here is =
    subst (λ (o : Option OverPage). TellsFirstOver most p (take (i + 1) copies) o) (sym is)
    (subst (λ (l : List FnCopy). TellsFirstOver most p l (earlier found next)) (sym (take_more copies i d below)) (tells_earlier most p (take i copies) (get_or copies i d ∷ []) found next seen here))

pub all_seen : (most : ℕ) (p : Program) (copies : List FnCopy) (i : ℕ) (found : Option OverPage) → length copies ≤ i → TellsFirstOver most p (take i copies) found → TellsFirstOver most p copies found
all_seen most p copies i found over tells = subst (λ (l : List FnCopy). TellsFirstOver most p l found) (take_all i copies over) tells

-- ---- what is told
pub page_told : (most : ℕ) (p : Program) (copies : List FnCopy) (found : OverPage) (name : List ℕ) → TellsFirstOver most p copies (Some found) → name ≡ name_at p found.number → IsFirstOver most p copies name found.words
page_told most p copies found name tells named = record { number = found.number; over = tells.0; first = tells.1; named = named }

passes : (p : Program) (copies order : List FnCopy) (blocks : List ℕ) (words : ℕ) → IsPermutation copies order → IsNonDecreasingBy rank order → blocks ≡ sizes p order
    → AreWithinPages blocks × PassesMemory (addresses blocks) × (words ≡ sum blocks) → PassesPages p copies words
passes p copies order blocks words same sorted is (within, behind, total) =
    record {
      order = order;
      in_order = record { same = same; sorted = sorted };
      pages = subst AreWithinPages is within;
      passes = subst (λ (l : List ℕ). PassesMemory (addresses l)) is behind;
      total = total ∙ ap sum is;
    }

explained : (p : Program) (copies order : List FnCopy) (blocks : List ℕ) (error : PageError) (told : CompileError) → IsPermutation copies order → IsNonDecreasingBy rank order → blocks ≡ sizes p order
    → TellsPages blocks (Err error) → Explains p copies error told → TellsCode p copies told
explained p copies order blocks pages.NoMemory told same sorted is tells why = subst (TellsCode p copies) (sym why) tt
explained p copies order blocks (pages.Page block words) told same sorted is tells why = why
explained p copies order blocks (pages.Code words) told same sorted is tells why = subst (TellsCode p copies) (sym why) (passes p copies order blocks words same sorted is tells)

-- the error of the placing of these blocks tells of the copies, lent as this list
pub code_told : (p : Program) (copies lent order : List FnCopy) (blocks : List ℕ) (answer : Result (Vec ℕ Global) PageError) (error : PageError) (told : CompileError) → IsPermutation copies order → IsNonDecreasingBy rank order
    → blocks ≡ sizes p order → answer ≡ Err error → TellsPages blocks answer → lent ≡ copies → Explains p lent error told → TellsCode p copies told
code_told p copies lent order blocks answer error told same sorted is err tells given why =
    explained p copies order blocks error told same sorted is (subst (TellsPages blocks) err tells) (subst (λ (l : List FnCopy). Explains p l error told) given why)

-- ---- some function's block is over a page
helper_small : (h : Helper) → words h ≤ 2048
helper_small Mul2 = omega arith
helper_small Mul4 = omega arith
helper_small Divu2 = omega arith
helper_small Divs2 = omega arith
helper_small Remu2 = omega arith
helper_small Rems2 = omega arith
helper_small Divu4 = omega arith
helper_small Divs4 = omega arith
helper_small Remu4 = omega arith
helper_small Rems4 = omega arith
helper_small Shl2 = omega arith
helper_small Shru2 = omega arith
helper_small Shrs2 = omega arith
helper_small Shl4 = omega arith
helper_small Shru4 = omega arith
helper_small Shrs4 = omega arith

capped_low : (n most : ℕ) → n ≤ 2048 → 2048 < most → min n most ≤ 2048
capped_low n most le lt = let e = min-eq_left {n = n} {m = most} (omega (arith, le, lt)) in omega (arith, e, le)

small_helper : (p : Program) (copy : FnCopy) (h : Helper) → copy.function ≡ callee.Helper h → copy_words p copy ≤ 2048
unfolding copy_words
small_helper p copy h is =
    let same = ap (λ f. capped (block_words p f)) is in
    let low = capped_low (words h) (2 ^ 64 - 1) (helper_small h) (omega arith) in
    omega (arith, same, low)

pub some_function : (p : Program) (copies : List FnCopy) → SomeIsOver p copies → TellsFirstOver 2048 p copies None → ⊥
some_function p copies some none = by some.copy.function refl
  where
    by : (f : FnId) → some.copy.function ≡ f → ⊥
    by (callee.User number) is = none number (copy_words p some.copy) (record { copy = some.copy; among = some.among; function = is; stated = refl; over = some.over })
    by (callee.Helper h) is = let low = small_helper p some.copy h is in let high = some.over in omega (arith, low, high)

-- the copy whose words a block has
of_words : (p : Program) (copies order xs : List FnCopy) (k words : ℕ) → ((c : FnCopy) → Contains xs c → Contains order c) → IsPermutation copies order → slice_get (map (copy_words p) xs) k ≡ Some words → 2048 < words
    → SomeIsOver p copies
of_words p copies order [] k words within same is over = absurd (cc)
of_words p copies order (x ∷ xs) zero words within same is over =
    let e : copy_words p x ≡ words = one_number (copy_words p x) words is in
    record { copy = x; among = Contains-permutation order copies x (IsPermutation-sym copies order same) (within x (0, omega arith, refl)); over = omega (arith, e, over) }
  where
    one_number : (m n : ℕ) → Some m ≡ Some n → m ≡ n
    one_number m n e = cc
of_words p copies order (x ∷ xs) (suc k) words within same is over = of_words p copies order xs k words (λ c there. within c (suc there.0, let l = there.1 in omega (arith, l), there.2)) same is over

over_there : (p : Program) (copies order : List FnCopy) (block words : ℕ) → IsPermutation copies order → capped (start_size p) ≤ 2048 → blocks_of.IsFirstOver (sizes p order) block words → SomeIsOver p copies
over_there p copies order zero words same low (is, over, first) = absurd (let e = one_number (capped (start_size p)) words is in omega (arith, e, low, over))
  where
    one_number : (m n : ℕ) → Some m ≡ Some n → m ≡ n
    one_number m n e = cc
over_there p copies order (suc k) words same low (is, over, first) = of_words p copies order order k words (λ c there. there) same is over

of_copy : (p : Program) (copies order : List FnCopy) (blocks : List ℕ) (error : PageError) → IsPermutation copies order → blocks ≡ sizes p order → capped (start_size p) ≤ 2048 → TellsPages blocks (Err error) → IsOfCopy p copies error
of_copy p copies order blocks pages.NoMemory same is low tells = tt
of_copy p copies order blocks (pages.Page block words) same is low tells = over_there p copies order block words same low (subst (λ (l : List ℕ). blocks_of.IsFirstOver l block words) is tells)
of_copy p copies order blocks (pages.Code words) same is low tells = tt

-- the start block isn't over a page, so a block that is is that of a copy of this list that was lent
pub over_in_copies : (p : Program) (copies lent order : List FnCopy) (blocks : List ℕ) (answer : Result (Vec ℕ Global) PageError) (error : PageError) → IsPermutation copies order → blocks ≡ sizes p order → capped (start_size p) ≤ 2048
    → answer ≡ Err error → TellsPages blocks answer → lent ≡ copies → IsOfCopy p lent error
over_in_copies p copies lent order blocks answer error same is low err tells given =
    subst (λ (l : List FnCopy). IsOfCopy p l error) (sym given) (of_copy p copies order blocks error same is low (subst (TellsPages blocks) err tells))

-- ---- within limits
module _ (limits : Limits) (p : Program) (copies : List FnCopy) (none : NoneIsOver limits.words_of_block p copies) where
  -- where no block is over its limit, none is over a page
  not_over : limits.words_of_block ≤ 2048 → (name : List ℕ) (words : ℕ) → IsFirstOverPage p copies name words → ⊥
  not_over low name words first =
      let over = first.over in
      let high : 2048 < words = over.over in
      none first.number words (record { copy = over.copy; among = over.among; function = over.function; stated = over.stated; over = omega (arith, low, high) })

  within_passes : (words : ℕ) → PassesPages p copies words → PassesWords limits p copies words
  within_passes words is = record { blocks = none; order = is.order; in_order = is.in_order; pages = is.pages; passes = inl is.passes; total = is.total }

  within_code : limits.words_of_block ≤ 2048 → (r : Refusal) → IsOfCode p copies r → IsOfCodeWithin limits p copies r
  within_code low (Page name words) is = absurd (not_over low name.items words is)
  within_code low (Code words) is = within_passes words is
  within_code low (Lex line) is = absurd is
  within_code low (Word line) is = absurd is
  within_code low (Directive line) is = absurd is
  within_code low (Syntax line) is = absurd is
  within_code low (Typing kind line) is = absurd is
  within_code low (Recursion name) is = absurd is
  within_code low (Roots kind) is = absurd is
  within_code low (Depth depth) is = absurd is
  within_code low (Ram name) is = absurd is
  within_code low (Limit kind line) is = absurd is

  pub within_told : limits.words_of_block ≤ 2048 → (e : CompileError) → TellsCode p copies e → TellsCodeWithin limits p copies e
  within_told low NoMemory is = tt
  within_told low (Refused refusal) is = within_code low refusal is

  pub many_words : (at : List ℕ) (words : ℕ) → HasBlocks p copies at words → limits.words < words → PassesWords limits p copies words
  many_words at words blocks many =
      let same = blocks.sum in
      record {
        blocks = none;
        order = blocks.order;
        in_order = record { same = blocks.same; sorted = blocks.sorted };
        pages = blocks.pages;
        passes = inr (omega (arith, same, many));
        total = same;
      }

  pub are_within : (objects : List ObjectLine) (frames : List FrameLine) (at : List ℕ) (words : ℕ) → IsPlacingIn (whole_below p limits.top_of_memory) p copies objects frames → HasBlocks p copies at words → words ≤ limits.words → AreWithin limits p copies
  are_within objects frames at words placing blocks few =
      let same = blocks.sum in
      record {
        memory = record { objects = objects; frames = frames; placing = placing };
        blocks = none;
        order = blocks.order;
        in_order = record { same = blocks.same; sorted = blocks.sorted };
        words = omega (arith, same, few);
      }

-- a block over its limit is told by the name of its function
pub over_told : (limits : Limits) (p : Program) (copies lent : List FnCopy) (e : CompileError) → lent ≡ copies → TellsCodeWithin limits p lent e → TellsCodeWithin limits p copies e
over_told limits p copies lent e same told = subst (λ (l : List FnCopy). TellsCodeWithin limits p l e) same told

pub none_lent : (most : ℕ) (p : Program) (copies lent : List FnCopy) → lent ≡ copies → NoneIsOver most p lent → NoneIsOver most p copies
none_lent most p copies lent same none = subst (λ (l : List FnCopy). NoneIsOver most p l) same none
