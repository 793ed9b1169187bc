-- What the reader's answer says of the text.
use Rattle.std.proofs.Common.{◌≡◌, ℕ, Option, Some, None, Result, Ok, Err, List, [], sym, ap, ◌∙◌, subst, arith}
use Rattle.std.specs.Prelude.{IfOk, IfErr}
use Rattle.std.proofs.lemmas.List.{ext_get_or}
use Rattle.text_lines.specs.Text.{lines_of}
use Rattle.hex_image.specs.HexFile.{Given, given_by, IsHexFile}
use Rattle.pic_chip.specs.Words.{AreWords}
use Rattle.hex_image.specs.HexText.{hex_text}
use Rattle.hex_image.proofs.File.{hex_text-is_file}
use Rattle.hex_image.specs.Reading.{reading_of}
use Rattle.hex_image.specs.Answers.{Refuses, Gives, GivesImage, IsReadAs, IsFilled}
use Rattle.hex_image.specs.declared.read.HexError.{HexError}
use Rattle.hex_image.specs.declared.read.HexError.TheVariants.{NoMemory, BadRecord, Checksum, UnknownType, Outside, Twice, NoEnd}
use Rattle.hex_image.proofs.ReadLaws.{AreSingle, nothing_single, LinesRight, lines_right}

-- what is read of a text, and what its lines give
text_right : (text : List ℕ) → LinesRight [] (given_by (lines_of text) 0) (reading_of text)
text_right text = lines_right 1 0 [] (lines_of text) nothing_single

given_is : (o : Option (List Given)) (r : Result (List Given) HexError) (given : List Given) → LinesRight [] o r → r ≡ Ok given → (o ≡ Some given) × AreSingle given
given_is None (Ok g) given h e = absurd h
given_is None (Err x) given h e = absurd (cc e)
given_is (Some more) (Err x) given h e = absurd (cc e)
given_is (Some more) (Ok g) given h e =
    let same : g ≡ given = cc e in
    (ap Some (sym h.0 ∙ same), subst AreSingle same h.1)

given_again : (o : Option (List Given)) (r : Result (List Given) HexError) (given : List Given) → LinesRight [] o r → o ≡ Some given → AreSingle given → r ≡ Ok given
given_again None r given h e s = absurd (cc e)
given_again (Some more) (Ok g) given h e s = let same : more ≡ given = cc e in ap Ok (h.0 ∙ same)
given_again (Some more) (Err x) given h e s = let same : more ≡ given = cc e in absurd (h (subst AreSingle (sym same) s))

pub single_given : (text : List ℕ) (given : List Given) → reading_of text ≡ Ok given → AreSingle given
single_given text given e = (given_is (given_by (lines_of text) 0) (reading_of text) given (text_right text) e).1

pub is_file : (text image : List ℕ) → IsReadAs text image → IsHexFile text image
is_file text image h =
    let (given, e, filled) = h in
    let g = given_is (given_by (lines_of text) 0) (reading_of text) given (text_right text) e in
    record { given = given; reads = g.0; below = g.1.below; once = g.1.once; words = filled.words; each = filled.each }

file_read : (text image : List ℕ) (h : IsHexFile text image) → reading_of text ≡ Ok h.given
file_read text image h = given_again (given_by (lines_of text) 0) (reading_of text) h.given (text_right text) h.reads (record { below = h.below; once = h.once })

pub is_read : (text image : List ℕ) → IsHexFile text image → IsReadAs text image
is_read text image h = (h.given, file_read text image h, record { words = h.words; each = h.each })

pub written_read : (image : List ℕ) → AreWords image → IsReadAs (hex_text image) image
written_read image are = is_read (hex_text image) image (hex_text-is_file image are)

same_image : (given : List Given) (a b : List ℕ) → IsFilled given a → IsFilled given b → a ≡ b
same_image given a b f g =
    let count = f.words.count in
    ext_get_or 0 a b (f.words.count ∙ sym g.words.count) (λ w l. f.each w (omega (arith, count, l)) ∙ sym (g.each w (omega (arith, count, l))))

pub found : (result : Result (List ℕ) HexError) (text : List ℕ) → GivesImage result text → IfOk result (λ image. IsHexFile text image)
found (Ok image) text e = is_file text image e
found (Err error) text e = tt

ok_image : (text image other : List ℕ) → IsReadAs text image → IsHexFile text other → image ≡ other
ok_image text image other e h =
    let (given, reads, filled) = e in
    let same : given ≡ h.given = given_same given h.given (sym reads ∙ file_read text other h) in
    same_image h.given image other (subst (λ g. IsFilled g image) same filled) (record { words = h.words; each = h.each })
  where
    given_same : (x y : List Given) → ◌≡◌ {A = Result (List Given) HexError} (Ok x) (Ok y) → x ≡ y
    given_same x y e = cc e

refused_no_file : (text image : List ℕ) (x : HexError) (r : Result (List ℕ) HexError) → reading_of text ≡ Err x → IsHexFile text image → Ok image ≡ Err x
refused_no_file text image x r e h = absurd (never h.given (sym (file_read text image h) ∙ e))
  where
    never : (g : List Given) → ◌≡◌ {A = Result (List Given) HexError} (Ok g) (Err x) → ⊥
    never g e = cc e

pub only : (result : Result (List ℕ) HexError) (text : List ℕ) → GivesImage result text → (image : List ℕ) → IsHexFile text image → Gives (λ i. i) result (Ok image)
only (Ok i) text e image h = ap Ok (sym (ok_image text i image e h))
only (Err NoMemory) text e image h = tt
only (Err (BadRecord k)) text e image h = refused_no_file text image (BadRecord k) (Ok image) e h
only (Err (Checksum k f w)) text e image h = refused_no_file text image (Checksum k f w) (Ok image) e h
only (Err (UnknownType k t)) text e image h = refused_no_file text image (UnknownType k t) (Ok image) e h
only (Err (Outside k a)) text e image h = refused_no_file text image (Outside k a) (Ok image) e h
only (Err (Twice k a)) text e image h = refused_no_file text image (Twice k a) (Ok image) e h
only (Err NoEnd) text e image h = refused_no_file text image NoEnd (Ok image) e h

pub refused : (result : Result (List ℕ) HexError) (text : List ℕ) → GivesImage result text → IfErr result (λ error. Refuses error (reading_of text))
refused (Ok image) text e = tt
refused (Err error) text e = e
