-- Over a sound host a simulation or a comparison with status 3 prints the line of the first file that has no content.
use Rattle.std.proofs.Common.{◌≡◌, ℕ, inl, inr, true, IsTrue, Option, List, ◌++◌, refl, sym, ap, ◌∙◌, subst, arith, option_map}
use Rattle.host_io.specs.Host.{Kind, Contents}
use Rattle.picc_cli.specs.declared.comparing.Ended as agree_ends
use Rattle.picc_cli.specs.declared.comparing.Ended.TheVariants as agree
use Rattle.picc_cli.specs.declared.inputs.FileEnd.TheVariants.{CannotRead}
use Rattle.picc_cli.specs.declared.simulating.Ended as chip_ends
use Rattle.picc_cli.specs.declared.simulating.Ended.TheVariants.{Done, Unmodelled, NoHex, NoMap, NoScript, CannotPrint, NoMemory}
use Rattle.picc_cli.specs.Agreement as agreement
use Rattle.picc_cli.specs.Chip.{EndsAtMissing, FailsWithoutFiles, Leads, SimulationPrints, TellsMissing, ends_at_file, last_line, status_of}
use Rattle.picc_cli.specs.Command.{Compared, Simulated}
use Rattle.host_lines.specs.Said.{Says}
use Rattle.picc_cli.proofs.ChipEnds.{agree_three, chip_three}
use Rattle.picc_cli.proofs.Endings.{number_apart}
use Rattle.picc_cli.proofs.FormPrints.{chip_prints, prints_line}

-- ---- simulations
-- nothing was printed before the line of a file
nothing_led : (ended : chip_ends.Ended) (p middle : Option (List ℕ)) → ends_at_file ended ≡ true → Leads ended p middle → middle ≡ p
nothing_led ended p middle at (inl (also, same)) = same
nothing_led Done p middle at (inr run) = absurd (cc)
nothing_led (Unmodelled pc) p middle at (inr run) = absurd (cc)
nothing_led (NoHex end) p middle at (inr (content, none)) = absurd none
nothing_led (NoMap end) p middle at (inr (content, none)) = absurd none
nothing_led (NoScript end) p middle at (inr (content, none)) = absurd none
nothing_led CannotPrint p middle at (inr run) = absurd (cc)
nothing_led NoMemory p middle at (inr run) = absurd (cc)

module _ (asked : Simulated) where
  line_told : (ended found : chip_ends.Ended) (p middle q : Option (List ℕ)) → ended ≡ found → ends_at_file found ≡ true → Leads ended p middle
      → q ≡ option_map (λ t. t ++ last_line asked ended) middle → q ≡ option_map (λ t. t ++ last_line asked found) p
  line_told ended found p middle q is at leads said =
      let same : middle ≡ p = nothing_led found p middle at (subst (λ x. Leads x p middle) is leads) in
      let line : q ≡ option_map (λ t. t ++ last_line asked found) middle = subst (λ x. q ≡ option_map (λ t. t ++ last_line asked x) middle) is said in
      line ∙ ap (option_map (λ t. t ++ last_line asked found)) same

  missing_told : (files : Option Contents) (ended : chip_ends.Ended) (p middle q : Option (List ℕ)) → Leads ended p middle → q ≡ option_map (λ t. t ++ last_line asked ended) middle
      → EndsAtMissing asked files ended → TellsMissing asked files p q
  missing_told files ended p middle q leads said (inl (is, lacks)) = inl (lacks, line_told ended (NoHex CannotRead) p middle q is refl leads said)
  missing_told files ended p middle q leads said (inr (inl (is, has, lacks))) = inr (inl (has, lacks, line_told ended (NoMap CannotRead) p middle q is refl leads said))
  missing_told files ended p middle q leads said (inr (inr (is, has, more, lacks))) =
      inr (inr (has, more, lacks, line_told ended (NoScript CannotRead) p middle q is refl leads said))

  chip_sound : (ended : chip_ends.Ended) (kind later : Kind) (files : Option Contents) (before now : ℕ) (p middle q : Option (List ℕ)) (result : ℕ)
      → FailsWithoutFiles kind files asked ended → later ≡ kind → Leads ended p middle → Says later before now middle q (last_line asked ended) (status_of ended) result
      → IsTrue kind.is_sound → result ≡ 3 → TellsMissing asked files p q
  chip_sound ended kind later files before now p middle q result fails alike leads (inl s) is three =
      missing_told files ended p middle q leads s.printed (fails.only is (chip_three ended (sym s.ends ∙ three)))
  chip_sound ended kind later files before now p middle q result fails alike leads (inr u) is three =
      number_apart 3 9 result (omega arith) three (u.unsound (subst (λ (k : Kind). IsTrue k.is_sound) (sym alike) is))

  pub chip_printed : (ended : chip_ends.Ended) (kind later : Kind) (files : Option Contents) (before now : ℕ) (p middle q : Option (List ℕ)) (result : ℕ)
      → FailsWithoutFiles kind files asked ended → later ≡ kind → Leads ended p middle → Says later before now middle q (last_line asked ended) (status_of ended) result
      → SimulationPrints kind asked files p q result
  chip_printed ended kind later files before now p middle q result fails alike leads says =
      record {
        prints = chip_prints asked ended later before now p middle q result leads says;
        sound = chip_sound ended kind later files before now p middle q result fails alike leads says;
      }

-- ---- comparisons
module _ (asked : Compared) where
  input_told : (files : Option Contents) (ended : agree_ends.Ended) (p q : Option (List ℕ)) → q ≡ option_map (λ t. t ++ agreement.last_line asked ended) p
      → agreement.EndsAtMissing asked files ended → agreement.TellsMissing asked files p q
  input_told files ended p q said (inl (is, lacks)) =
      let line : q ≡ option_map (λ t. t ++ agreement.last_line asked agree.CannotReadText) p = subst (λ x. q ≡ option_map (λ t. t ++ agreement.last_line asked x) p) is said in
      inl (lacks, line)
  input_told files ended p q said (inr (is, has, lacks)) =
      let line : q ≡ option_map (λ t. t ++ agreement.last_line asked (agree.NoScript CannotRead)) p = subst (λ x. q ≡ option_map (λ t. t ++ agreement.last_line asked x) p) is said in
      inr (has, lacks, line)

  agree_sound : (ended : agree_ends.Ended) (kind later : Kind) (files : Option Contents) (before now : ℕ) (p middle q : Option (List ℕ)) (result : ℕ)
      → agreement.FailsWithoutFiles kind files asked ended → later ≡ kind → middle ≡ p → Says later before now middle q (agreement.last_line asked ended) (agreement.status_of ended) result
      → IsTrue kind.is_sound → result ≡ 3 → agreement.TellsMissing asked files p q
  agree_sound ended kind later files before now p middle q result fails alike same (inl s) is three =
      input_told files ended p q (s.printed ∙ ap (option_map (λ t. t ++ agreement.last_line asked ended)) same) (fails.only is (agree_three ended (sym s.ends ∙ three)))
  agree_sound ended kind later files before now p middle q result fails alike same (inr u) is three =
      number_apart 3 9 result (omega arith) three (u.unsound (subst (λ (k : Kind). IsTrue k.is_sound) (sym alike) is))

  pub agree_printed : (ended : agree_ends.Ended) (kind later : Kind) (files : Option Contents) (before now : ℕ) (p middle q : Option (List ℕ)) (result : ℕ)
      → agreement.FailsWithoutFiles kind files asked ended → later ≡ kind → middle ≡ p → Says later before now middle q (agreement.last_line asked ended) (agreement.status_of ended) result
      → agreement.AgreementPrints kind asked files p q result
  agree_printed ended kind later files before now p middle q result fails alike same says =
      record {
        prints =
            prints_line agreement.status_of (agreement.IsText asked) ended later before now p middle q (agreement.last_line asked ended) result refl same says;
        sound = agree_sound ended kind later files before now p middle q result fails alike same says;
      }
