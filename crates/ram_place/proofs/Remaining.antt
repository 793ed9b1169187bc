-- Static objects that are left out: the rest of those that are kept, one behind the other.
use Rattle.std.proofs.Common.{◌≡◌, ℕ, zero, suc, ◌+◌, ◌*◌, ◌<◌, ◌≤◌, ◌^◌, Bool, true, false, if◌then◌else◌, ◌⊎◌, inl, inr, List, [], ◌∷◌, length, drop, map, get_or, refl, sym, ap, ◌∙◌, subst, arith, slice_get, Some}
use Rattle.std.proofs.lemmas.List.{drop_all, length-map}
use Rattle.std.proofs.lemmas.Option.{slice_get_within, slice_get_cases}
use Rattle.c_typed.specs.Nodes.{capped}
use Rattle.c_typed.specs.Trees.{StaticTree, Program}
use Rattle.c_typed.specs.Types.{type_bytes}
use Rattle.c_typed.specs.Views.{static_of}
use Rattle.c_typed.specs.Words.{statics_bytes}
use Rattle.c_typed.specs.declared.program.Static.{Static}
use Rattle.live_frames.proofs.Connected.{drop_got, got_of}
use Rattle.ram_place.specs.Placement.{is_left_out, kept_from}
use Rattle.ram_place.specs.Start.{bytes_kept}

-- with none left out all are kept
pub kept_none : (n : ℕ) (statics : List StaticTree) → kept_from n [] statics ≡ statics
kept_none n [] = refl
kept_none n (s ∷ statics) =
    ap (λ (list : List StaticTree). s ∷ list) (kept_none (n + 1) statics)

-- the first of some static objects is left out, or kept
gone : (n : ℕ) (without : List ℕ) (s : StaticTree) (rest : List StaticTree) → is_left_out without n ≡ true → kept_from n without (s ∷ rest) ≡ kept_from (n + 1) without rest
gone n without s rest is = ap (λ (b : Bool). if b then kept_from (n + 1) without rest else s ∷ kept_from (n + 1) without rest) is

stays : (n : ℕ) (without : List ℕ) (s : StaticTree) (rest : List StaticTree) → is_left_out without n ≡ false → kept_from n without (s ∷ rest) ≡ s ∷ kept_from (n + 1) without rest
stays n without s rest isnt = ap (λ (b : Bool). if b then kept_from (n + 1) without rest else s ∷ kept_from (n + 1) without rest) isnt

-- what is left of the statics behind the first n
next : (statics : List Static) (n : ℕ) (object : Static) → n < length statics → object ≡ get_or statics n object → drop n (map static_of statics) ≡ static_of object ∷ drop (n + 1) (map static_of statics)
next statics n object below read = drop_got (map static_of statics) n (static_of object) (got_of static_of statics n object below read)

-- what stands where so many of a list are left
first_left : {X : Type 0} (xs : List X) (k : ℕ) (x : X) (rest : List X) → drop k xs ≡ x ∷ rest → (slice_get xs k ≡ Some x) × (drop (k + 1) xs ≡ rest) × (k < length xs)
first_left {X} xs k x rest is =
    elim (slice_get_cases xs k).1 [
      | inl found ↦ (
          let both : found.0 ∷ drop (k + 1) xs ≡ x ∷ rest = sym (drop_got xs k found.0 found.2) ∙ is in
          let same : found.0 ≡ x = cc in
          let behind : drop (k + 1) xs ≡ rest = cc in
          (found.2 ∙ ap Some same, behind, slice_get_within xs k found.0 found.2))
      | inr past ↦ absurd (none x rest (sym (drop_all k xs past.0) ∙ is))
    ] where
      none : {X : Type 0} (x : X) (rest : List X) → ◌≡◌ {A = List X} [] (x ∷ rest) → ⊥
      none {X} x rest same = cc

-- So many of the kept ones have lines, and these are left: those that are kept of the statics behind the first n.
pub IsLeft : List ℕ → List Static → ℕ → ℕ → Type 0
IsLeft without statics lines n =
    (lines ≤ length (kept_from 0 without (map static_of statics))) × (drop lines (kept_from 0 without (map static_of statics)) ≡ kept_from n without (drop n (map static_of statics)))

pub left_first : (without : List ℕ) (statics : List Static) → IsLeft without statics 0 0
unfolding IsLeft
left_first without statics = (omega arith, refl)

-- what is left where the statics were lent as this list
next_lent : (statics given : List Static) (n : ℕ) (object : Static) → given ≡ statics → n < length given → object ≡ get_or given n object → drop n (map static_of statics) ≡ static_of object ∷ drop (n + 1) (map static_of statics)
next_lent statics given n object same below read =
    let P : List Static → Type 0 = λ (list : List Static). drop n (map static_of list) ≡ static_of object ∷ drop (n + 1) (map static_of list) in
    subst P same (next given n object below read)

pub left_gone : (without : List ℕ) (statics given : List Static) (lines n : ℕ) (object : Static) → given ≡ statics → n < length given → object ≡ get_or given n object → is_left_out without n ≡ true → IsLeft without statics lines n → IsLeft without statics lines (n + 1)
unfolding IsLeft
left_gone without statics given lines n object same below read out left =
    (left.0, left.1 ∙ ap (kept_from n without) (next_lent statics given n object same below read) ∙ gone n without (static_of object) (drop (n + 1) (map static_of statics)) out)

pub left_kept : (without : List ℕ) (statics given : List Static) (lines n : ℕ) (object : Static) → given ≡ statics → n < length given → object ≡ get_or given n object → is_left_out without n ≡ false → IsLeft without statics lines n
    → (slice_get (kept_from 0 without (map static_of statics)) lines ≡ Some (static_of object)) × IsLeft without statics (lines + 1) (n + 1)
unfolding IsLeft
left_kept without statics given lines n object same below read out left =
    let is = left.1 ∙ ap (kept_from n without) (next_lent statics given n object same below read) ∙ stays n without (static_of object) (drop (n + 1) (map static_of statics)) out in
    let found = first_left (kept_from 0 without (map static_of statics)) lines (static_of object) (kept_from (n + 1) without (drop (n + 1) (map static_of statics))) is in
    let within = found.2 in
    (found.0, (omega (arith, within), found.1))

pub left_none : (without : List ℕ) (statics given : List Static) (lines n : ℕ) → given ≡ statics → length given ≤ n → IsLeft without statics lines n → lines ≡ length (kept_from 0 without (map static_of statics))
unfolding IsLeft
left_none without statics given lines n same past left =
    let few = left.0 in
    let long = length-map statics static_of in
    let lent = ap (length {A = Static}) same in
    let none : drop lines (kept_from 0 without (map static_of statics)) ≡ [] = left.1 ∙ ap (kept_from n without) (drop_all n (map static_of statics) (omega (arith, long, lent, past))) in
    elim (slice_get_cases (kept_from 0 without (map static_of statics)) lines).1 [
      | inl found ↦ absurd (some found.0 (drop (lines + 1) (kept_from 0 without (map static_of statics))) (sym (drop_got (kept_from 0 without (map static_of statics)) lines found.0 found.2) ∙ none))
      | inr past ↦ (let over = past.0 in omega (arith, few, over))
    ] where
      some : {X : Type 0} (x : X) (rest : List X) → ◌≡◌ {A = List X} (x ∷ rest) [] → ⊥
      some {X} x rest same = cc

-- ---- bytes
none_more : (all rest here : ℕ) → all ≡ rest → here ≡ 0 → all ≡ here + rest
none_more all rest here same none = omega (arith, same, none)

some_more : (all rest own here : ℕ) → all ≡ own + rest → here ≡ own → all ≡ here + rest
some_more all rest own here same is = omega (arith, same, is)

kept_bytes : (sizes : List ℕ) (without : List ℕ) (n : ℕ) (s : StaticTree) (rest : List StaticTree) (out : Bool) → is_left_out without n ≡ out
    → statics_bytes sizes (kept_from n without (s ∷ rest)) ≡ bytes_kept sizes without n s + statics_bytes sizes (kept_from (n + 1) without rest)
kept_bytes sizes without n s rest true is =
    none_more (statics_bytes sizes (kept_from n without (s ∷ rest))) (statics_bytes sizes (kept_from (n + 1) without rest)) (bytes_kept sizes without n s) (ap (statics_bytes sizes) (gone n without s rest is))
    (ap (λ (b : Bool). if b then 0 else type_bytes sizes s.ty.ty) is)
kept_bytes sizes without n s rest false is =
    some_more (statics_bytes sizes (kept_from n without (s ∷ rest))) (statics_bytes sizes (kept_from (n + 1) without rest)) (type_bytes sizes s.ty.ty) (bytes_kept sizes without n s)
    (ap (statics_bytes sizes) (stays n without s rest is)) (ap (λ (b : Bool). if b then 0 else type_bytes sizes s.ty.ty) is)

-- The sum and the bytes of those that are left are all bytes.
abbrev pub bytes_left : List ℕ → List ℕ → List Static → ℕ → ℕ
bytes_left sizes without statics n = statics_bytes sizes (kept_from n without (drop n (map static_of statics)))

added : (now count r x left rest whole : ℕ) → left ≡ x + rest → r ≡ capped x → now ≡ capped (count + r) → capped (count + left) ≡ capped whole → capped (now + rest) ≡ capped whole
added now count r x left rest whole more made put so_far = omega (arith, more, made, put, so_far)

pub bytes_more : (sizes : List ℕ) (without : List ℕ) (statics : List Static) (n : ℕ) (object : Static) (now count r whole : ℕ) → n < length statics → object ≡ get_or statics n object
    → r ≡ capped (bytes_kept sizes without n (static_of object)) → now ≡ capped (count + r) → now < 2 ^ 64 → (count < 2 ^ 64) × (capped (count + bytes_left sizes without statics n) ≡ capped whole)
    → (now < 2 ^ 64) × (capped (now + bytes_left sizes without statics (n + 1)) ≡ capped whole)
bytes_more sizes without statics n object now count r whole below read made put fits so_far =
    let here : bytes_left sizes without statics n ≡ bytes_kept sizes without n (static_of object) + bytes_left sizes without statics (n + 1) =
    ap (λ (list : List StaticTree). statics_bytes sizes (kept_from n without list)) (next statics n object below read)
    ∙ kept_bytes sizes without n (static_of object) (drop (n + 1) (map static_of statics)) (is_left_out without n) refl in
    (fits, added now count r (bytes_kept sizes without n (static_of object)) (bytes_left sizes without statics n) (bytes_left sizes without statics (n + 1)) whole here made put so_far.1)

pub bytes_all : (sizes : List ℕ) (without : List ℕ) (statics : List Static) (n count whole : ℕ) → length statics ≤ n → (count < 2 ^ 64) × (capped (count + bytes_left sizes without statics n) ≡ capped whole) → count ≡ capped whole
bytes_all sizes without statics n count whole past so_far =
    let long = length-map statics static_of in
    let none : bytes_left sizes without statics n ≡ 0 = ap (λ (list : List StaticTree). statics_bytes sizes (kept_from n without list)) (drop_all n (map static_of statics) (omega (arith, long, past))) in
    let small = so_far.0 in let same = so_far.1 in
    omega (arith, none, small, same)
