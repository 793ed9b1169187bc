-- Reading from one line to the next.
use Rattle.std.proofs.Common.{◌≡◌, ℕ, ◌+◌, ◌-◌, ◌*◌, ◌<◌, ◌≤◌, Some, None, Result, Ok, Err, List, [], ◌∷◌, length, take, drop, slice_index, refl, sym, ap, ◌∙◌, subst, arith}
use Rattle.std.specs.Prelude.{IsErrAnd}
use Rattle.std.proofs.Math.Seq.{take-length}
use Rattle.text_lines.specs.Text.{lines_of, split_lines}
use Rattle.hex_image.specs.HexFile.{Given}
use Rattle.hex_image.specs.Reading.{Told, Data, line_bytes, record_of, told_in, placed, under, after_record, after_line, go_on, read_on}
use Rattle.hex_image.specs.Answers.{Refuses, Gives}
use Rattle.hex_image.specs.declared.read.HexError.{HexError}
use Rattle.hex_image.specs.declared.read.HexError.TheVariants.{NoMemory, BadRecord, Checksum, UnknownType, Outside, Twice, NoEnd}

-- an error that is passed on is that of the whole
pub refuses_on : {A B : Type 0} (e : HexError) (r : Result A HexError) (s : Result B HexError) → Refuses e r → ((x : HexError) → r ≡ Err x → s ≡ Err x) → Refuses e s
refuses_on NoMemory r s h on = tt
refuses_on (BadRecord k) r s h on = on (BadRecord k) h
refuses_on (Checksum k f w) r s h on = on (Checksum k f w) h
refuses_on (UnknownType k t) r s h on = on (UnknownType k t) h
refuses_on (Outside k a) r s h on = on (Outside k a) h
refuses_on (Twice k a) r s h on = on (Twice k a) h
refuses_on NoEnd r s h on = on NoEnd h

pub passed : {A B : Type 0} (seen : A → B) (r : Result A HexError) (e : HexError) (s : Result B HexError) → IsErrAnd r (λ y. y ≡ e) → Refuses e s → Gives seen r s
passed seen (Ok x) e s h g = absurd h
passed seen (Err y) e s h g = subst (λ z. Refuses z s) (sym h) g

-- ---- a line
pub empty_line : (k upper : ℕ) (given : List Given) (line : List ℕ) → length line < 1 → after_line k upper given line ≡ Ok (Some upper, given)
unfolding after_line
empty_line k upper given [] h = refl
empty_line k upper given (c ∷ line) h = absurd (omega (arith, h))

-- the bytes of a line that isn't empty
abbrev pub bytes_in : ℕ → List ℕ → Result (List ℕ) HexError
bytes_in k line = line_bytes k (slice_index line 0) (take (length line - 1) (drop 1 line))

line_is : (k upper : ℕ) (given : List Given) (line : List ℕ) → 1 ≤ length line → after_line k upper given line ≡ after_record k upper given (told_in k (bytes_in k line))
unfolding after_line
line_is k upper given [] h = absurd (omega (arith, h))
line_is k upper given (first ∷ digits) h =
    let n : length (first ∷ digits) - 1 ≡ length digits = omega arith in
    let whole : take (length (first ∷ digits) - 1) digits ≡ digits = ap (λ i. take i digits) n ∙ take-length digits in
    ap (λ d. after_record k upper given (told_in k (line_bytes k first d))) (sym whole)

pub bytes_refused : (k upper : ℕ) (given : List Given) (line : List ℕ) (e : HexError) → 1 ≤ length line → Refuses e (bytes_in k line) → Refuses e (after_line k upper given line)
bytes_refused k upper given line e h r =
    refuses_on e (bytes_in k line) (after_line k upper given line) r (λ x f. line_is k upper given line h ∙ ap (λ b. after_record k upper given (told_in k b)) f)

record_is : (k upper : ℕ) (given : List Given) (line bytes now : List ℕ) → 1 ≤ length line → bytes_in k line ≡ Ok bytes → now ≡ bytes → after_line k upper given line ≡ after_record k upper given (record_of k now)
record_is k upper given line bytes now h b n =
    line_is k upper given line h ∙ ap (λ b. after_record k upper given (told_in k b)) b ∙ ap (λ x. after_record k upper given (record_of k x)) (sym n)

pub record_refused : (k upper : ℕ) (given : List Given) (line bytes now : List ℕ) (e : HexError) → 1 ≤ length line → bytes_in k line ≡ Ok bytes → now ≡ bytes → Refuses e (record_of k now) → Refuses e (after_line k upper given line)
record_refused k upper given line bytes now e h b n r =
    refuses_on e (record_of k now) (after_line k upper given line) r (λ x f. record_is k upper given line bytes now h b n ∙ ap (after_record k upper given) f)

pub record_leads : (k upper : ℕ) (given : List Given) (line bytes now : List ℕ) (t : Told) → 1 ≤ length line → bytes_in k line ≡ Ok bytes → now ≡ bytes → record_of k now ≡ Ok t
    → after_line k upper given line ≡ after_record k upper given (Ok t)
record_leads k upper given line bytes now t h b n r = record_is k upper given line bytes now h b n ∙ ap (after_record k upper given) r

pub data_refused : (k upper address : ℕ) (given : List Given) (line bytes now told : List ℕ) (e : HexError) → 1 ≤ length line → bytes_in k line ≡ Ok bytes → now ≡ bytes → record_of k now ≡ Ok (Data address told)
    → Refuses e (placed k given (65536 * upper + address) told) → Refuses e (after_line k upper given line)
data_refused k upper address given line bytes now told e h b n r p =
    refuses_on e (placed k given (65536 * upper + address) told) (after_line k upper given line) p
    (λ x f. record_leads k upper given line bytes now (Data address told) h b n r ∙ ap (under upper) f)

pub data_leads : (k upper address : ℕ) (given new : List Given) (line bytes now told : List ℕ) → 1 ≤ length line → bytes_in k line ≡ Ok bytes → now ≡ bytes → record_of k now ≡ Ok (Data address told)
    → placed k given (65536 * upper + address) told ≡ Ok new → after_line k upper given line ≡ Ok (Some upper, new)
data_leads k upper address given new line bytes now told h b n r p = record_leads k upper given line bytes now (Data address told) h b n r ∙ ap (under upper) p

-- ---- the lines
step : (k upper : ℕ) (given : List Given) (lines : List (List ℕ)) (line : List ℕ) (rest : List (List ℕ)) → lines ≡ line ∷ rest
    → read_on k upper given lines ≡ go_on (after_line k upper given line) (λ u g. read_on (k + 1) u g rest)
unfolding read_on
step k upper given lines line rest e = ap (read_on k upper given) e

pub step_on : (k upper next : ℕ) (given new : List Given) (lines : List (List ℕ)) (line : List ℕ) (rest : List (List ℕ)) → lines ≡ line ∷ rest → after_line k upper given line ≡ Ok (Some next, new)
    → read_on k upper given lines ≡ read_on (k + 1) next new rest
step_on k upper next given new lines line rest e h = step k upper given lines line rest e ∙ ap (λ r. go_on r (λ u g. read_on (k + 1) u g rest)) h

pub step_ends : (k upper : ℕ) (given new : List Given) (lines : List (List ℕ)) (line : List ℕ) (rest : List (List ℕ)) → lines ≡ line ∷ rest → after_line k upper given line ≡ Ok (None, new)
    → read_on k upper given lines ≡ Ok new
step_ends k upper given new lines line rest e h = step k upper given lines line rest e ∙ ap (λ r. go_on r (λ u g. read_on (k + 1) u g rest)) h

pub step_refused : (k upper : ℕ) (given : List Given) (lines : List (List ℕ)) (line : List ℕ) (rest : List (List ℕ)) (e : HexError) (whole : Result (List Given) HexError)
    → lines ≡ line ∷ rest → Refuses e (after_line k upper given line) → read_on k upper given lines ≡ whole → Refuses e whole
step_refused k upper given lines line rest e whole l h w =
    refuses_on e (after_line k upper given line) whole h (λ x f. sym w ∙ step k upper given lines line rest l ∙ ap (λ r. go_on r (λ u g. read_on (k + 1) u g rest)) f)

pub no_end : (k upper : ℕ) (given : List Given) (rest : List ℕ) → rest ≡ [] → read_on k upper given (lines_of rest) ≡ Err NoEnd
unfolding read_on split_lines
no_end k upper given rest e = ap (λ r. read_on k upper given (lines_of r)) e
