-- How a check of the depth of the return stack ends, by the certificate that was found or not, and by what was printed.
use Rattle.std.proofs.Common.{◌≡◌, ◌≤◌, ◌<◌, ℕ, ◌⊎◌, inl, inr, ⊎_elim, true, false, IsTrue, Option, Some, None, IfSome, List, ◌++◌, length, Ok, Err, refl, sym, ap, ◌∙◌, subst, arith, option_map}
use Rattle.depth_check.proofs.Sure.{fact, stands_at}
use Rattle.depth_check.proofs.Threads.{handler, main_row, small_total}
use Rattle.depth_check.proofs.Totals.{one_total}
use Rattle.depth_check.proofs.Whole.{stays_within}
use Rattle.depth_check.specs.Certificate.{Certificate}
use Rattle.depth_check.specs.Depth.{StaysWithin}
use Rattle.depth_check.specs.Facts.{at_interrupt, at_reset}
use Rattle.depth_check.specs.Valid.{is_valid, total_of}
use Rattle.host_io.specs.Host.{Kind, Contents, Lacks}
use Rattle.host_lines.specs.Said.{GivesUp, HasOutcomeCause, Says}
use Rattle.picc_cli.specs.declared.checking.Ended.{Ended}
use Rattle.picc_cli.specs.declared.checking.Ended.TheVariants.{Within, Uncertified, NoHex, NoMemory}
use Rattle.picc_cli.specs.declared.inputs.FileEnd.{FileEnd}
use Rattle.picc_cli.specs.declared.inputs.FileEnd.TheVariants as files
use Rattle.picc_cli.specs.Checked.{IsBounded, HasNoCertificate, IsImageEnd, ImageKnows, Knows, is_fault, FailsWithoutFile, last_line, status_of, IsText, CheckPrints, CheckTells, CheckCompletes}
use Rattle.picc_cli.specs.Command.{Form, Check}
use Rattle.picc_cli.specs.Finished.{HasFaults, IsStatus, HasStatus, HasTold, IsComplete}
use Rattle.picc_cli.specs.Inputs as inputs
use Rattle.picc_cli.specs.Inputs.{IsHexInput}
use Rattle.picc_cli.specs.Lines.{cannot_read}
use Rattle.picc_cli.specs.ScriptInput.{IsFile}
use Rattle.picc_cli.proofs.Endings.{number_apart, up_apart, quiet_nine}
use Rattle.picc_cli.proofs.FilesKept.{same_bytes, hex_kept, hex_same, file_ends}
use Rattle.picc_cli.proofs.FormEnds.{form_faults, said_status, with_status, up_not_two, NotTwo}
use Rattle.picc_cli.proofs.FormPrints.{prints_line}
use Rattle.picc_cli.proofs.InputFiles.{file_three, file_fault}

-- ---- the image
-- a valid certificate has the routines from which its total is taken
pub has_main : (image : List ℕ) (c : Certificate) → is_valid image c ≡ true → 0 < length c.routines
has_main image c valid =
    let s = stands_at image c valid 0 0 at_reset (main_row image c valid) in
    subst (λ n. n < length c.routines) s.same (fact image c valid 0 s.row s.is).exists

pub has_handler : (image : List ℕ) (c : Certificate) → is_valid image c ≡ true → c.interrupts ≡ true → 1 < length c.routines
has_handler image c valid e =
    let s = stands_at image c valid 4 1 at_interrupt (handler image c valid e).1 in
    subst (λ n. n < length c.routines) s.same (fact image c valid 4 s.row s.is).exists

pub bounded : (image : List ℕ) (c : Certificate) (depth : ℕ) → is_valid image c ≡ true → depth ≡ total_of c → IsBounded image depth
bounded image c depth valid is =
    record {
      certificate = c;
      valid = valid;
      total = is;
      one = λ other known. is ∙ one_total image c other valid known;
      few = subst (λ k. k ≤ 8) (sym is) (small_total image c valid);
      runs = subst (StaysWithin image) (sym is) (stays_within image c valid);
    }

-- ---- the file
pub no_fault : (ended : Ended) → IsImageEnd ended → is_fault ended ≡ false
no_fault (Within depth) end = refl
no_fault Uncertified end = refl
no_fault (NoHex why) end = absurd end
no_fault NoMemory end = refl

pub read_cause : (kind : Kind) (before now : ℕ) (ended : Ended) → HasOutcomeCause kind before now false → IsImageEnd ended → HasOutcomeCause kind before now (is_fault ended)
read_cause kind before now ended cause end = subst (HasOutcomeCause kind before now) (sym (no_fault ended end)) cause

pub read_sound : {T : Type 0} (kind : Kind) (old : Option Contents) (name : List ℕ) (x : T) (ended : Ended) → inputs.FailsWithoutFile {T = T} kind old name (Ok x) → IsImageEnd ended
    → FailsWithoutFile kind old name ended
read_sound kind old name x ended sound end =
    record {
      only = λ is fails. let never = no_fault ended end in absurd (cc);
      always = λ is lacks. let both = sound.always is lacks in absurd (cc);
    }

pub unread_sound : {T : Type 0} (kind : Kind) (old : Option Contents) (name : List ℕ) (end : FileEnd) → inputs.FailsWithoutFile {T = T} kind old name (Err end)
    → FailsWithoutFile kind old name (NoHex end)
unread_sound kind old name end sound =
    record {
      only = λ is fails. let both = sound.only is fails in let read = both.0 in let e : end ≡ files.CannotRead = cc in (ap NoHex e, both.1);
      always = λ is lacks. let both = sound.always is lacks in let e : end ≡ files.CannotRead = cc in ap NoHex e;
    }

known_at : (o : Contents) (name image : List ℕ) (ended : Ended) → IsFile o name (IsHexInput image) → IsImageEnd ended → ImageKnows image ended → Knows name o ended
known_at o name image (Within depth) file end knows = (image, file, knows)
known_at o name image Uncertified file end knows = (image, file, knows)
known_at o name image (NoHex why) file end knows = absurd end
known_at o name image NoMemory file end knows = tt

pub image_known : (old : Option Contents) (name image : List ℕ) (ended : Ended) → IfSome old (λ o. IsFile o name (IsHexInput image)) → IsImageEnd ended → ImageKnows image ended
    → IfSome old (λ o. Knows name o ended)
image_known None name image ended file end knows = tt
image_known (Some o) name image ended file end knows = known_at o name image ended file end knows

pub file_known : (old : Option Contents) (name : List ℕ) (end : FileEnd) → IfSome old (λ o. inputs.HasNoHex o name end) → IfSome old (λ o. Knows name o (NoHex end))
file_known None name end none = tt
file_known (Some o) name end none = none

-- ---- statuses
check_three : (ended : Ended) → status_of ended ≡ 3 → is_fault ended ≡ true
check_three (Within depth) e = absurd (omega arith)
check_three Uncertified e = absurd (omega arith)
check_three (NoHex end) e = file_three end e
check_three NoMemory e = absurd (omega arith)

check_fault : (ended : Ended) → is_fault ended ≡ true → status_of ended ≡ 3
check_fault (Within depth) e = absurd (cc)
check_fault Uncertified e = absurd (cc)
check_fault (NoHex end) e = file_fault end e
check_fault NoMemory e = absurd (cc)

-- a file ends a command with 3, 5 or 9
file_apart : {P : Type 0} (n : ℕ) (end : FileEnd) → (n ≡ 3 → ⊥) → (n ≡ 5 → ⊥) → (n ≡ 9 → ⊥) → inputs.status_of end ≡ n → P
file_apart n files.CannotRead three five nine e = absurd (three (sym e))
file_apart n files.TooLong three five nine e = absurd (five (sym e))
file_apart n (files.BadHex error) three five nine e = absurd (five (sym e))
file_apart n (files.BadLine line) three five nine e = absurd (five (sym e))
file_apart n files.NoMemory three five nine e = absurd (nine (sym e))

module _ (name : List ℕ) where
  abbrev form : Option Form
  form = Some (Check name)

  file_status : (end : FileEnd) (result : ℕ) → result ≡ inputs.status_of end → IsStatus form result
  file_status files.CannotRead result e = inr (inr (inr (inl e)))
  file_status files.TooLong result e = inr (inl e)
  file_status (files.BadHex error) result e = inr (inl e)
  file_status (files.BadLine line) result e = inr (inl e)
  file_status files.NoMemory result e = inr (inr (inr (inr e)))

  known_end : (ended : Ended) (result : ℕ) → result ≡ status_of ended → IsStatus form result
  known_end (Within depth) result e = inl e
  known_end Uncertified result e = inr (inr (inl e))
  known_end (NoHex end) result e = file_status end result e
  known_end NoMemory result e = inr (inr (inr (inr e)))

  not_two : (result : ℕ) → IsStatus form result → NotTwo result
  not_two result (inl e) two = absurd (omega arith)
  not_two result (inr (inl e)) two = absurd (omega arith)
  not_two result (inr (inr (inl e))) two = absurd (omega arith)
  not_two result (inr (inr (inr up))) two = up_not_two result up two

  pub check_status : (ended : Ended) (kind : Kind) (before now : ℕ) (p q : Option (List ℕ)) (line : List ℕ) (result : ℕ) → Says kind before now p q line (status_of ended) result → HasStatus form result
  check_status ended kind before now p q line result says =
      let known : IsStatus form result = ⊎_elim (λ e. known_end ended result e) (λ up. inr (inr (inr up))) (said_status kind before now p q line (status_of ended) result says) in
      with_status (Check name) result known (not_two result known)

  -- ---- faults
  missing_up : (kind : Kind) (old : Option Contents) (ended : Ended) → FailsWithoutFile kind old name ended → IsTrue kind.is_sound → Lacks old name → GivesUp (status_of ended)
  missing_up kind old ended sound is lacks = inl (ap status_of (sound.always is lacks))

  pub check_faults : (ended : Ended) (kind alike : Kind) (old : Option Contents) (first before now : ℕ) (p q : Option (List ℕ)) (line : List ℕ) (result : ℕ)
      → HasOutcomeCause kind first before (is_fault ended) → FailsWithoutFile kind old name ended → alike ≡ kind → Says alike before now p q line (status_of ended) result
      → HasFaults kind first now form old result
  check_faults ended kind alike old first before now p q line result cause sound same says =
      form_faults form kind alike old (is_fault ended) (status_of ended) (check_three ended) (check_fault ended) (λ is at. (sound.only is at).1) (missing_up kind old ended sound)
      first before now p q line result cause same says

  -- ---- what is printed
  missing_told : (ended : Ended) (p q : Option (List ℕ)) → ended ≡ NoHex files.CannotRead → q ≡ option_map (λ t. t ++ last_line name ended) p → q ≡ option_map (λ t. t ++ cannot_read name) p
  missing_told ended p q is said = subst (λ x. q ≡ option_map (λ t. t ++ last_line name x) p) is said

  line_missing : (ended : Ended) (kind alike : Kind) (old : Option Contents) (before now : ℕ) (p middle q : Option (List ℕ)) (result : ℕ) → FailsWithoutFile kind old name ended → alike ≡ kind
      → middle ≡ p → Says alike before now middle q (last_line name ended) (status_of ended) result → IsTrue kind.is_sound → result ≡ 3 → q ≡ option_map (λ t. t ++ cannot_read name) p
  line_missing ended kind alike old before now p middle q result sound same nothing (inl s) is three =
      missing_told ended p q (sound.only is (check_three ended (sym s.ends ∙ three))).0 (s.printed ∙ ap (option_map (λ t. t ++ last_line name ended)) nothing)
  line_missing ended kind alike old before now p middle q result sound same nothing (inr u) is three =
      number_apart 3 9 result (omega arith) three (u.unsound (subst (λ (k : Kind). IsTrue k.is_sound) (sym same) is))

  pub check_printed : (ended : Ended) (kind alike : Kind) (old : Option Contents) (before now : ℕ) (p middle q : Option (List ℕ)) (result : ℕ) → FailsWithoutFile kind old name ended → alike ≡ kind
      → middle ≡ p → Says alike before now middle q (last_line name ended) (status_of ended) result → CheckPrints kind name p q result
  check_printed ended kind alike old before now p middle q result sound same nothing says =
      record {
        prints = prints_line status_of (IsText name) ended alike before now p middle q (last_line name ended) result refl nothing says;
        sound = line_missing ended kind alike old before now p middle q result sound same nothing says;
      }

  -- ---- what the status says
  module _ (o : Contents) (result : ℕ) (p q : Option (List ℕ)) where
    said_told : (ended : Ended) → Knows name o ended → result ≡ status_of ended → q ≡ option_map (λ t. t ++ last_line name ended) p → CheckTells name o p q result
    said_told (Within depth) knows ends said =
        record {
          bounded = λ zero. (depth, knows, said);
          uncertified = λ seven. number_apart 0 7 result (omega arith) ends seven;
          refused = λ five. number_apart 0 5 result (omega arith) ends five;
        }
    said_told Uncertified knows ends said =
        record {
          bounded = λ zero. number_apart 0 7 result (omega arith) zero ends;
          uncertified = λ seven. (knows, said);
          refused = λ five. number_apart 5 7 result (omega arith) five ends;
        }
    said_told (NoHex end) knows ends said =
        record {
          bounded = λ zero. file_apart 0 end (λ e. absurd (omega arith)) (λ e. absurd (omega arith)) (λ e. absurd (omega arith)) (sym ends ∙ zero);
          uncertified = λ seven. file_apart 7 end (λ e. absurd (omega arith)) (λ e. absurd (omega arith)) (λ e. absurd (omega arith)) (sym ends ∙ seven);
          refused = λ five. (end, knows, sym ends ∙ five, said);
        }
    said_told NoMemory knows ends said =
        record {
          bounded = λ zero. number_apart 0 9 result (omega arith) zero ends;
          uncertified = λ seven. number_apart 7 9 result (omega arith) seven ends;
          refused = λ five. number_apart 5 9 result (omega arith) five ends;
        }

    -- it gave up
    pub unsaid_told : GivesUp result → CheckTells name o p q result
    unsaid_told up =
        record {
          bounded = λ zero. up_apart 0 result (omega arith) zero up;
          uncertified = λ seven. absurd (seven_apart up seven);
          refused = λ five. absurd (five_apart up five);
        }
      where
        seven_apart : GivesUp result → result ≡ 7 → ⊥
        seven_apart (inl three) seven = absurd (omega arith)
        seven_apart (inr nine) seven = absurd (omega arith)

        five_apart : GivesUp result → result ≡ 5 → ⊥
        five_apart (inl three) five = absurd (omega arith)
        five_apart (inr nine) five = absurd (omega arith)

    -- ---- without a fault
    nine : (result ≡ 3 → ⊥) → GivesUp result → result ≡ 9
    nine quiet up = quiet_nine result quiet up

    valid_ends : (quiet : result ≡ 3 → ⊥) (ended : Ended) → Knows name o ended → result ≡ status_of ended → (image : List ℕ) (c : Certificate) → IsFile o name (IsHexInput image) → is_valid image c ≡ true
        → (result ≡ 0) ⊎ (result ≡ 9)
    valid_ends quiet (Within depth) knows ends image c file valid = inl ends
    valid_ends quiet Uncertified (other, there, none) ends image c file valid = absurd (none c (subst (λ i. is_valid i c ≡ true) (hex_same o name image other file there) valid))
    valid_ends quiet (NoHex end) knows ends image c file valid = inr (nine quiet (subst GivesUp (sym ends) (hex_kept o name image end file knows)))
    valid_ends quiet NoMemory knows ends image c file valid = inr ends

    invalid_ends : (quiet : result ≡ 3 → ⊥) (ended : Ended) → Knows name o ended → result ≡ status_of ended → (image : List ℕ) → IsFile o name (IsHexInput image) → HasNoCertificate image
        → (result ≡ 7) ⊎ (result ≡ 9)
    invalid_ends quiet (Within depth) (other, there, is) ends image file none = absurd (none is.certificate (subst (λ i. is_valid i is.certificate ≡ true) (hex_same o name other image there file) is.valid))
    invalid_ends quiet Uncertified knows ends image file none = inl ends
    invalid_ends quiet (NoHex end) knows ends image file none = inr (nine quiet (subst GivesUp (sym ends) (hex_kept o name image end file knows)))
    invalid_ends quiet NoMemory knows ends image file none = inr ends

    bad_ends : (quiet : result ≡ 3 → ⊥) (ended : Ended) → Knows name o ended → result ≡ status_of ended → ((image : List ℕ) → IsFile o name (IsHexInput image) → ⊥) → (result ≡ 5) ⊎ (result ≡ 9)
    bad_ends quiet (Within depth) (image, there, is) ends none = absurd (none image there)
    bad_ends quiet Uncertified (image, there, is) ends none = absurd (none image there)
    bad_ends quiet (NoHex end) knows ends none = file_ends end result quiet ends
    bad_ends quiet NoMemory knows ends none = inr ends

    by_status : IsStatus form result → (result ≡ 3 → ⊥) → (result ≡ 0) ⊎ ((result ≡ 5) ⊎ ((result ≡ 7) ⊎ (result ≡ 9)))
    by_status (inl e) quiet = inl e
    by_status (inr (inl e)) quiet = inr (inl e)
    by_status (inr (inr (inl e))) quiet = inr (inr (inl e))
    by_status (inr (inr (inr up))) quiet = inr (inr (inr (nine quiet up)))

    said_complete : (quiet : result ≡ 3 → ⊥) (ended : Ended) → Knows name o ended → (result ≡ status_of ended) ⊎ GivesUp result → IsStatus form result → CheckCompletes name o result
    said_complete quiet ended knows ends known =
        record {
          ends = by_status known quiet;
          certified = λ image c file valid. ⊎_elim (λ e. valid_ends quiet ended knows e image c file valid) (λ up. inr (nine quiet up)) ends;
          uncertified = λ image file none. ⊎_elim (λ e. invalid_ends quiet ended knows e image file none) (λ up. inr (nine quiet up)) ends;
          no_hex = λ bytes has none.
              ⊎_elim (λ e. bad_ends quiet ended knows e (λ image file. none image (subst (IsHexInput image) (same_bytes o name file.0 bytes file.1 has) file.2))) (λ up. inr (nine quiet up)) ends;
        }

  pub check_told : (ended : Ended) (old new : Option Contents) (kind : Kind) (before now : ℕ) (p middle q : Option (List ℕ)) (result : ℕ) → IfSome old (λ o. Knows name o ended) → middle ≡ p
      → Says kind before now middle q (last_line name ended) (status_of ended) result → IfSome old (λ o. HasTold form o new p q result)
  check_told ended None new kind before now p middle q result knows same says = tt
  check_told ended (Some o) new kind before now p middle q result knows same (inl s) =
      said_told o result p q ended knows s.ends (s.printed ∙ ap (option_map (λ t. t ++ last_line name ended)) same)
  check_told ended (Some o) new kind before now p middle q result knows same (inr u) = unsaid_told o result p q u.ends

  pub check_complete : (ended : Ended) (old : Option Contents) (kind alike : Kind) (first before now : ℕ) (p q : Option (List ℕ)) (result : ℕ) → IfSome old (λ o. Knows name o ended)
      → Says alike before now p q (last_line name ended) (status_of ended) result → HasFaults kind first now form old result → HasStatus form result
      → IfSome old (λ o. IsComplete kind first now form o result)
  check_complete ended None kind alike first before now p q result knows says faults status = tt
  check_complete ended (Some o) kind alike first before now p q result knows says faults status = λ quiet.
      said_complete o result p q (λ three. quiet (faults.only three)) ended knows (said_status alike before now p q (last_line name ended) (status_of ended) result says) status.known
