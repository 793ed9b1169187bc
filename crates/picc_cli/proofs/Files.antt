-- What the calls on files come to, one behind the other.
use Rattle.std.proofs.Common.{◌≡◌, ℕ, zero, suc, ◌+◌, ◌<◌, ◌≤◌, ◌⊎◌, inl, inr, Option, Some, None, IfSome, List, [], ◌∷◌, length, take, refl, sym, ap, ◌∙◌, subst, arith, option_map, min}
use Rattle.std.proofs.lemmas.List.{length-take}
use Rattle.host_io.specs.Host.{Contents, put, IsRead, PutsPrefix}
use Rattle.picc_cli.specs.declared.building.Outcome.TheVariants.{Built, Refused, Register, CannotRead, CannotWriteHex, CannotWriteMap, NoMemory}
use Rattle.picc_cli.specs.Command.{Names}
use Rattle.pic_chip.specs.declared.profile.Profile.{Profile}
use Rattle.pic_chip.specs.declared.profile.Profile.TheVariants.{Pic16F877a, Pic16F84a}
use Rattle.picc_core.specs.Texts.{HasTree}
use Rattle.picc_cli.specs.Made.{files_for}
use Rattle.picc_cli.specs.declared.building.Outcome.{Outcome}
use Rattle.picc_cli.specs.Outcome.{TellsWhyBy, Refuses, BreaksOff, WorkedOn, build_for}
use Rattle.picc_cli.proofs.Whole.{why_whole, tree_whole}

-- ---- what was read
pub take_all : (xs : List ℕ) (n : ℕ) → length xs ≤ n → take n xs ≡ xs
take_all [] zero h = refl
take_all [] (suc n) h = refl
take_all (x ∷ xs) zero h = absurd (omega arith)
take_all (x ∷ xs) (suc n) h = ap (λ t. x ∷ t) (take_all xs n (omega arith))

-- the content of a name of which so many bytes were read
pub content_of : (n : ℕ) (o : Option (List ℕ)) (bytes : List ℕ) → option_map (take n) o ≡ Some bytes → (text : List ℕ) × (o ≡ Some text) × (take n text ≡ bytes)
content_of n None bytes e = absurd (cc)
content_of n (Some text) bytes e = (text, refl, cc)

-- it was read whole, where it isn't too long
pub read_whole : (most : ℕ) (text bytes : List ℕ) → take (most + 1) text ≡ bytes → length bytes ≤ most → text ≡ bytes
read_whole most text bytes e short =
    let l : length bytes ≡ min (most + 1) (length text) = ap (length {A = ℕ}) (sym e) ∙ length-take (most + 1) text in
    sym (take_all text (most + 1) (omega arith)) ∙ e

pub read_long : (most : ℕ) (text bytes : List ℕ) → take (most + 1) text ≡ bytes → most < length bytes → most < length text
read_long most text bytes e long =
    let l : length bytes ≡ min (most + 1) (length text) = ap (length {A = ℕ}) (sym e) ∙ length-take (most + 1) text in
    omega arith

-- what is built of a text for a chip shows that it has a tree
tree_of : (chip : Profile) (text hex map : List ℕ) → files_for chip text hex map → HasTree text
tree_of Pic16F877a text hex map is = is.built.tree
tree_of Pic16F84a text hex map is = is.built.tree

built_whole : (chip : Profile) (text bytes hex map : List ℕ) → take 262145 text ≡ bytes → files_for chip bytes hex map → files_for chip text hex map
built_whole chip text bytes hex map e built = subst (λ t. files_for chip t hex map) (tree_whole text bytes e (tree_of chip bytes hex map built)) built

-- ---- the calls of a build, one behind the other
refused_at : (why : Outcome) (o : Contents) (new : Option Contents) (names : Names) (bytes : List ℕ) → IsRead names.input 262145 bytes o → new ≡ Some o
    → TellsWhyBy (build_for names.chip) bytes why → Refuses why names o new
refused_at why o new names bytes read same tells =
    let text = content_of 262145 (o names.input) bytes read in
    record {
      text = text.0;
      read = text.1;
      tells = why_whole (build_for names.chip) text.0 bytes why (λ l. sym text.2 ∙ take_all text.0 262145 l) text.2 tells;
      files = same;
    }

-- a text for which there is a reason, or no memory to find it
refused_for : (why : Outcome) (o : Contents) (new : Option Contents) (names : Names) (bytes : List ℕ) → IsRead names.input 262145 bytes o → new ≡ Some o
    → TellsWhyBy (build_for names.chip) bytes why → WorkedOn (files_for names.chip) why names o new
refused_for (Refused refusal) o new names bytes read same tells = refused_at (Refused refusal) o new names bytes read same tells
refused_for (Register line) o new names bytes read same tells = refused_at (Register line) o new names bytes read same tells
refused_for Built o new names bytes read same tells = absurd tells
refused_for CannotRead o new names bytes read same tells = absurd tells
refused_for CannotWriteHex o new names bytes read same tells = absurd tells
refused_for CannotWriteMap o new names bytes read same tells = absurd tells
refused_for NoMemory o new names bytes read same tells = absurd tells

broken_hex_at : (old middle new : Option Contents) (names : Names) (bytes hex map : List ℕ) → IfSome old (IsRead names.input 262145 bytes) → middle ≡ old → files_for names.chip bytes hex map
    → PutsPrefix names.output hex middle new → IfSome old (λ o. BreaksOff (files_for names.chip) names o new)
broken_hex_at None middle new names bytes hex map read same built puts = tt
broken_hex_at (Some o) middle new names bytes hex map read same built (inl e) = inl (e ∙ same)
broken_hex_at (Some o) middle new names bytes hex map read same built (inr (n, short, e)) =
    let text = content_of 262145 (o names.input) bytes read in
    inr (record {
      text = text.0;
      hex = hex;
      map = map;
      read = text.1;
      built = built_whole names.chip text.0 bytes hex map text.2 built;
      files = inl (n, short, e ∙ ap (option_map (put names.output (take n hex))) same);
    })

broken_map_at : (old middle half new : Option Contents) (names : Names) (bytes hex map : List ℕ) → IfSome old (IsRead names.input 262145 bytes) → middle ≡ old → files_for names.chip bytes hex map
    → half ≡ option_map (put names.output hex) middle → PutsPrefix names.map map half new → IfSome old (λ o. BreaksOff (files_for names.chip) names o new)
broken_map_at None middle half new names bytes hex map read same built first puts = tt
broken_map_at (Some o) middle half new names bytes hex map read same built first (inl e) =
    let text = content_of 262145 (o names.input) bytes read in
    inr (record {
      text = text.0;
      hex = hex;
      map = map;
      read = text.1;
      built = built_whole names.chip text.0 bytes hex map text.2 built;
      files = inl (length hex, omega arith, e ∙ first ∙ ap (option_map (put names.output hex)) same ∙ ap (λ h. Some (put names.output h o)) (sym (take_all hex (length hex) (omega arith))));
    })
broken_map_at (Some o) middle half new names bytes hex map read same built first (inr (n, short, e)) =
    let text = content_of 262145 (o names.input) bytes read in
    inr (record {
      text = text.0;
      hex = hex;
      map = map;
      read = text.1;
      built = built_whole names.chip text.0 bytes hex map text.2 built;
      files = inr (n, short, e ∙ ap (option_map (put names.map (take n map))) (first ∙ ap (option_map (put names.output hex)) same));
    })

built_files_at : (old middle half new : Option Contents) (names : Names) (bytes hex map : List ℕ) → IfSome old (IsRead names.input 262145 bytes) → middle ≡ old → files_for names.chip bytes hex map
    → half ≡ option_map (put names.output hex) middle → new ≡ option_map (put names.map map) half → IfSome old (λ o. WorkedOn (files_for names.chip) Built names o new)
built_files_at None middle half new names bytes hex map read same built first second = tt
built_files_at (Some o) middle half new names bytes hex map read same built first second =
    let text = content_of 262145 (o names.input) bytes read in
    record {
      text = text.0;
      hex = hex;
      map = map;
      read = text.1;
      built = built_whole names.chip text.0 bytes hex map text.2 built;
      files = second ∙ ap (option_map (put names.map map)) (first ∙ ap (option_map (put names.output hex)) same);
    }

-- the same, where the calls were handed the bytes as slices
unmade_at : (why : Outcome) (old new : Option Contents) (names : Names) (bytes : List ℕ) → IfSome old (IsRead names.input 262145 bytes) → new ≡ old
    → (why ≡ NoMemory) ⊎ TellsWhyBy (build_for names.chip) bytes why → IfSome old (λ o. WorkedOn (files_for names.chip) why names o new)
unmade_at why None new names bytes read same told = tt
unmade_at why (Some o) new names bytes read same (inl none) = subst (λ w. WorkedOn (files_for names.chip) w names o new) (sym none) (inl same)
unmade_at why (Some o) new names bytes read same (inr tells) = refused_for why o new names bytes read same tells

pub unmade_files : (why : Outcome) (old new : Option Contents) (names : Names) (bytes text : List ℕ) → IfSome old (IsRead names.input 262145 bytes) → new ≡ old → text ≡ bytes
    → (why ≡ NoMemory) ⊎ TellsWhyBy (build_for names.chip) text why → IfSome old (λ o. WorkedOn (files_for names.chip) why names o new)
unmade_files why old new names bytes text read same e told =
    unmade_at why old new names bytes read same (subst (λ t. (why ≡ NoMemory) ⊎ TellsWhyBy (build_for names.chip) t why) e told)

pub broken_hex : (old middle new : Option Contents) (names : Names) (bytes text hex map first : List ℕ) → IfSome old (IsRead names.input 262145 bytes) → middle ≡ old
    → text ≡ bytes → files_for names.chip text hex map → first ≡ hex → PutsPrefix names.output first middle new → IfSome old (λ o. BreaksOff (files_for names.chip) names o new)
broken_hex old middle new names bytes text hex map first read same e built f puts =
    broken_hex_at old middle new names bytes hex map read same (subst (λ t. files_for names.chip t hex map) e built) (subst (λ t. PutsPrefix names.output t middle new) f puts)

pub broken_map : (old middle half new : Option Contents) (names : Names) (bytes text hex map first second : List ℕ) → IfSome old (IsRead names.input 262145 bytes) → middle ≡ old
    → text ≡ bytes → files_for names.chip text hex map → first ≡ hex → half ≡ option_map (put names.output first) middle → second ≡ map → PutsPrefix names.map second half new
    → IfSome old (λ o. BreaksOff (files_for names.chip) names o new)
broken_map old middle half new names bytes text hex map first second read same e built f one s puts =
    broken_map_at old middle half new names bytes hex map read same (subst (λ t. files_for names.chip t hex map) e built)
    (one ∙ ap (λ t. option_map (put names.output t) middle) f) (subst (λ t. PutsPrefix names.map t half new) s puts)

pub built_files : (old middle half new : Option Contents) (names : Names) (bytes text hex map first second : List ℕ) → IfSome old (IsRead names.input 262145 bytes) → middle ≡ old
    → text ≡ bytes → files_for names.chip text hex map → first ≡ hex → half ≡ option_map (put names.output first) middle → second ≡ map → new ≡ option_map (put names.map second) half
    → IfSome old (λ o. WorkedOn (files_for names.chip) Built names o new)
built_files old middle half new names bytes text hex map first second read same e built f one s two =
    built_files_at old middle half new names bytes hex map read same (subst (λ t. files_for names.chip t hex map) e built)
    (one ∙ ap (λ t. option_map (put names.output t) middle) f) (two ∙ ap (λ t. option_map (put names.map t) half) s)
