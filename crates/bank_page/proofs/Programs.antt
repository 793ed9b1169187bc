-- One block more keeps what all keep.
use Rattle.std.proofs.Common.{◌≡◌, ℕ, ◌+◌, ◌<◌, ◌≤◌, true, List, [], ◌∷◌, ◌++◌, length, get_or, take, map, refl, sym, ap, ◌∙◌, subst, arith, rules}
use Rattle.std.specs.List.{All, AllZip}
use Rattle.std.proofs.lemmas.List.{map-append, take_more, take_all}
use Rattle.std.proofs.lemmas.List.Elements.{All-push, AllZip-push}
use Rattle.pic_map.specs.declared.Placed.{Placed}
use Rattle.sym_code.specs.declared.code.SymBlock.{SymBlock}
use Rattle.sym_code.specs.Selects.{bare}
use Rattle.bank_page.specs.Ready.{are_ready, CanSelect}
use Rattle.bank_page.specs.Selected.{NoSelectBehindSkip, reaches_all, is_lean_all, names_of, bare_lists, IsApart, Reaches, IsLean, KeepsFrontOf, IsWithin, IsExact}

-- What holds of the blocks that are made of the first of a list.
pub record Blocks (placed : Placed) (list : List SymBlock) (i : ℕ) (made : List SymBlock) : Type 0 where
  pub names : names_of made ≡ names_of (take i list)
  pub lists : bare_lists made ≡ bare_lists (take i list)
  pub apart : All IsApart made
  pub reaches : All (Reaches placed) made
  pub lean : All IsLean made
  pub front : AllZip KeepsFrontOf (take i list) made
  pub few : AllZip IsWithin (take i list) made
  pub exact : AllZip (IsExact placed) (take i list) made

mapped : {B : Type 0} (f : SymBlock → B) (list made new : List SymBlock) (i : ℕ) (block x : SymBlock) → i < length list → block ≡ get_or list i block → new ≡ made ++ x ∷ [] → f x ≡ f block → map f made ≡ map f (take i list) → map f new ≡ map f (take (i + 1) list)
mapped f list made new i block x below is put same before =
    let next : take (i + 1) list ≡ take i list ++ block ∷ [] = take_more list i block below ∙ ap (λ (b : SymBlock). take i list ++ b ∷ []) (sym is) in
    ap (map f) put ∙ (map-append f made (x ∷ []) ∙ (ap (λ l. l ++ f x ∷ []) before ∙ (ap (λ b. map f (take i list) ++ b ∷ []) same ∙ (sym (map-append f (take i list) (block ∷ [])) ∙ ap (map f) (sym next)))))

more_all : (P : SymBlock → Type 0) (made new : List SymBlock) (x : SymBlock) → new ≡ made ++ x ∷ [] → P x → All P made → All P new
more_all P made new x put one before =
    let Q : List SymBlock → Type 0 = λ l. All P l in
    subst Q (sym put) (All-push P made x before one)

more_zip : (R : SymBlock → SymBlock → Type 0) (list made new : List SymBlock) (i : ℕ) (block x : SymBlock) → i < length list → block ≡ get_or list i block → new ≡ made ++ x ∷ [] → R block x → AllZip R (take i list) made → AllZip R (take (i + 1) list) new
more_zip R list made new i block x below is put one before =
    let next : take (i + 1) list ≡ take i list ++ block ∷ [] = take_more list i block below ∙ ap (λ (b : SymBlock). take i list ++ b ∷ []) (sym is) in
    let P : List SymBlock → Type 0 = λ l. AllZip R l new in
    let Q : List SymBlock → Type 0 = λ l. AllZip R (take i list ++ block ∷ []) l in
    subst P (sym next) (subst Q (sym put) (AllZip-push R (take i list) made block x before one))

-- selects can be put into each block, so into this one
pub ready_at : (placed : Placed) (given list : List SymBlock) (i : ℕ) (block : SymBlock) → given ≡ list → i < length given → block ≡ get_or given i block → All (CanSelect placed) list → CanSelect placed block
ready_at placed given list i block same below is ready =
    let P : List SymBlock → Type 0 = λ l. (i < length l) × (block ≡ get_or l i block) in
    let here = subst P same (below, is) in
    subst (CanSelect placed) (sym here.1) (ready i block here.0)

-- .. and into one block alone
pub ready_alone : (placed : Placed) (made : List SymBlock) (block : SymBlock) → made ≡ [] ++ block ∷ [] → are_ready placed block.list.items ≡ true → All (CanSelect placed) made
ready_alone placed made block put ready = more_all (CanSelect placed) [] made block put ready (search rules)

pub blocks_none : (placed : Placed) (list made : List SymBlock) → made ≡ [] → Blocks placed list 0 made
blocks_none placed list made none =
    let P : List SymBlock → Type 0 = λ m. Blocks placed list 0 m in
    subst P (sym none) (record { names = refl; lists = refl; apart = search rules; reaches = search rules; lean = search rules; front = search rules; few = search rules; exact = search rules })

pub blocks_more : (placed : Placed) (given list made new : List SymBlock) (i : ℕ) (block x : SymBlock) → given ≡ list → i < length given → block ≡ get_or given i block → new ≡ made ++ x ∷ [] → x.name ≡ block.name → bare x.list.items ≡ bare block.list.items → NoSelectBehindSkip x.list.items → reaches_all placed x ≡ true → is_lean_all x ≡ true → KeepsFrontOf block x → IsWithin block x → IsExact placed block x → Blocks placed list i made → Blocks placed list (i + 1) new
blocks_more placed given list made new i block x same below is put name lists apart right lean front few exact before =
    let P : List SymBlock → Type 0 = λ l. (i < length l) × (block ≡ get_or l i block) in
    let here = subst P same (below, is) in
    record {
      names = mapped (λ (b : SymBlock). b.name) list made new i block x here.0 here.1 put name before.names;
      lists = mapped (λ (b : SymBlock). bare b.list.items) list made new i block x here.0 here.1 put lists before.lists;
      apart = more_all IsApart made new x put apart before.apart;
      reaches = more_all (Reaches placed) made new x put right before.reaches;
      lean = more_all IsLean made new x put lean before.lean;
      front = more_zip KeepsFrontOf list made new i block x here.0 here.1 put front before.front;
      few = more_zip IsWithin list made new i block x here.0 here.1 put few before.few;
      exact = more_zip (IsExact placed) list made new i block x here.0 here.1 put exact before.exact;
    }

pub blocks_all : (placed : Placed) (given list made : List SymBlock) (i : ℕ) → given ≡ list → length given ≤ i → Blocks placed list i made → Blocks placed list (length list) made
blocks_all placed given list made i same past blocks =
    let P : List SymBlock → Type 0 = λ l. length l ≤ i in
    let few : length list ≤ i = subst P same past in
    let all : take i list ≡ take (length list) list = take_all i list few ∙ sym (take_all (length list) list (omega arith)) in
    record {
      names = blocks.names ∙ ap names_of all;
      lists = blocks.lists ∙ ap bare_lists all;
      apart = blocks.apart;
      reaches = blocks.reaches;
      lean = blocks.lean;
      front = (let Z : List SymBlock → Type 0 = λ l. AllZip KeepsFrontOf l made in subst Z all blocks.front);
      few = (let Z : List SymBlock → Type 0 = λ l. AllZip IsWithin l made in subst Z all blocks.few);
      exact = (let Z : List SymBlock → Type 0 = λ l. AllZip (IsExact placed) l made in subst Z all blocks.exact);
    }

pub whole : (placed : Placed) (given list made : List SymBlock) (i : ℕ) → given ≡ list → length given ≤ i → Blocks placed list i made → (names_of made ≡ names_of list) × (bare_lists made ≡ bare_lists list) × AllZip KeepsFrontOf list made × AllZip IsWithin list made × AllZip (IsExact placed) list made
whole placed given list made i same past blocks =
    let end = blocks_all placed given list made i same past blocks in
    let all : take (length list) list ≡ list = take_all (length list) list (omega arith) in
    let Y : List SymBlock → Type 0 = λ l. AllZip KeepsFrontOf l made in
    let Z : List SymBlock → Type 0 = λ l. AllZip IsWithin l made in
    let X : List SymBlock → Type 0 = λ l. AllZip (IsExact placed) l made in
    (end.names ∙ ap names_of all, end.lists ∙ ap bare_lists all, subst Y all end.front, subst Z all end.few, subst X all end.exact)
