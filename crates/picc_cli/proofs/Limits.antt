-- The numbers that words give are within their limits.
use Rattle.std.proofs.Common.{◌≡◌, ℕ, ◌+◌, ◌-◌, ◌*◌, ◌≤◌, ⊎_elim, Bool, true, false, Option, Some, None, List, [], ◌∷◌, refl, sym, subst, arith}
use Rattle.std.proofs.lemmas.Bool.{cases_lt, ltb-true, lt-ltb, le-ltb}
use Rattle.std.specs.Prelude.{nat_lt, ◌&&◌, if◌then◌else◌}
use Rattle.std.specs.Prelude.{codes, option_map}
use Rattle.std.specs.List.{list_all}
use Rattle.std.specs.Str.{bytes_eq}
use Rattle.pic_chip.specs.declared.profile.Profile.{Profile}
use Rattle.pic_chip.specs.declared.profile.Profile.TheVariants.{Pic16F877a, Pic16F84a}
use Rattle.picc_cli.specs.declared.command.Command as declared
use Rattle.picc_cli.specs.declared.command.Command.TheVariants as commands
use Rattle.picc_cli.specs.CommandView.{IsWithin, form_view}
use Rattle.picc_cli.specs.Command.{Form, Build, Trace, Simulate, Agree, Generate, Check, is_name, differ, is_short, all_digits, number_onto, number_in, build_of, trace_of, simulate_of, agree_of, from_one, generate_of, check_of, form_by_name, form_of}
use Rattle.picc_cli.specs.Summary.{IsSize}

onto_within : (most n m : ℕ) (digits : List ℕ) → n ≤ most → number_onto most n digits ≡ Some m → m ≤ most
unfolding number_onto
onto_within most n m [] low e = let same : n ≡ m = cc in omega arith
onto_within most n m (c ∷ digits) low e =
    ⊎_elim
    (λ h. let over = lt-ltb most (10 * n + (c - 48)) h in let none : None ≡ Some m = rw over at e in absurd (cc))
    (λ h. let within = le-ltb most (10 * n + (c - 48)) h in onto_within most (10 * n + (c - 48)) m digits h (rw within at e))
    (cases_lt most (10 * n + (c - 48)))

number_within : (most m : ℕ) (word : List ℕ) → number_in most word ≡ Some m → m ≤ most
number_within most m word = by_test (is_short word && all_digits word) where
  by_test : (b : Bool) → (if b then number_onto most 0 word else None) ≡ Some m → m ≤ most
  by_test true e = onto_within most 0 m word (omega arith) e
  by_test false e = absurd (cc)

-- the number of a form is within its limit
abbrev IsLimited : Form → Type 0
IsLimited (Build names) = Unit {0}
IsLimited (Trace asked) = Unit {0}
IsLimited (Simulate asked) = Unit {0}
IsLimited (Agree asked) = asked.instructions ≤ 100000
IsLimited (Generate size) = IsSize size
IsLimited (Check hex) = Unit {0}

this_form : (f g : Form) → Some f ≡ Some g → f ≡ g
this_form f g e = cc

module _ (form : Form) where
  by_form : (f : Form) → IsLimited f → Some f ≡ Some form → IsLimited form
  by_form f is e = subst IsLimited (this_form f form e) is

  no_form : None ≡ Some form → IsLimited form
  no_form e = absurd (cc)

  build_within : (chip : Profile) (words : List (List ℕ)) → build_of chip words ≡ Some form → IsLimited form
  build_within chip [] e = no_form e
  build_within chip (a ∷ []) e = no_form e
  build_within chip (a ∷ b ∷ []) e = no_form e
  build_within chip (a ∷ b ∷ c ∷ []) e = by_test (differ a b c) e where
    by_test : (x : Bool) → (if x then Some (Build (record { chip = chip; input = a; output = b; map = c })) else None) ≡ Some form → IsLimited form
    by_test true e = by_form (Build (record { chip = chip; input = a; output = b; map = c })) tt e
    by_test false e = no_form e
  build_within chip (a ∷ b ∷ c ∷ d ∷ more) e = no_form e

  trace_within : (words : List (List ℕ)) → trace_of words ≡ Some form → IsLimited form
  trace_within [] e = no_form e
  trace_within (a ∷ []) e = no_form e
  trace_within (a ∷ b ∷ []) e = no_form e
  trace_within (a ∷ b ∷ m ∷ []) e = by_number (number_in 1000000 m) e where
    by_number : (o : Option ℕ) → option_map (λ steps. Trace (record { input = a; script = b; steps = steps })) o ≡ Some form → IsLimited form
    by_number None e = no_form e
    by_number (Some n) e = by_form (Trace (record { input = a; script = b; steps = n })) tt e
  trace_within (a ∷ b ∷ m ∷ d ∷ more) e = no_form e

  simulation_within : (chip : Profile) (words : List (List ℕ)) → simulate_of chip words ≡ Some form → IsLimited form
  simulation_within chip [] e = no_form e
  simulation_within chip (a ∷ []) e = no_form e
  simulation_within chip (a ∷ b ∷ []) e = no_form e
  simulation_within chip (a ∷ b ∷ c ∷ []) e = no_form e
  simulation_within chip (a ∷ b ∷ c ∷ n ∷ []) e = by_number (number_in 1000000 n) e where
    by_number : (o : Option ℕ) → option_map (λ instructions. Simulate (record { chip = chip; hex = a; map = b; script = c; instructions = instructions })) o ≡ Some form → IsLimited form
    by_number None e = no_form e
    by_number (Some n) e = by_form (Simulate (record { chip = chip; hex = a; map = b; script = c; instructions = n })) tt e
  simulation_within chip (a ∷ b ∷ c ∷ n ∷ d ∷ more) e = no_form e

  agreement_within : (words : List (List ℕ)) → agree_of words ≡ Some form → IsLimited form
  agreement_within [] e = no_form e
  agreement_within (a ∷ []) e = no_form e
  agreement_within (a ∷ b ∷ []) e = no_form e
  agreement_within (a ∷ b ∷ n ∷ []) e = by_number (number_in 100000 n) (λ m is. number_within 100000 m n is) e where
    by_number : (o : Option ℕ) → ((m : ℕ) → o ≡ Some m → m ≤ 100000) → option_map (λ instructions. Agree (record { input = a; script = b; instructions = instructions })) o ≡ Some form → IsLimited form
    by_number None low e = no_form e
    by_number (Some m) low e = by_form (Agree (record { input = a; script = b; instructions = m })) (low m refl) e
  agreement_within (a ∷ b ∷ n ∷ d ∷ more) e = no_form e

  program_within : (words : List (List ℕ)) → generate_of words ≡ Some form → IsLimited form
  program_within [] e = no_form e
  program_within (k ∷ []) e = by_number (number_in 64 k) (λ m is. number_within 64 m k is) e where
    by_test : (m : ℕ) (x : Bool) → nat_lt 0 m ≡ x → m ≤ 64 → (if x then Some (Generate m) else None) ≡ Some form → IsLimited form
    by_test m true some low e = by_form (Generate m) (ltb-true 0 m some, low) e
    by_test m false none low e = no_form e

    by_number : (o : Option ℕ) → ((m : ℕ) → o ≡ Some m → m ≤ 64) → from_one o ≡ Some form → IsLimited form
    by_number None low e = no_form e
    by_number (Some m) low e = by_test m (nat_lt 0 m) refl (low m refl) e
  program_within (k ∷ d ∷ more) e = no_form e

  check_within : (words : List (List ℕ)) → check_of words ≡ Some form → IsLimited form
  check_within [] e = no_form e
  check_within (hex ∷ []) e = by_form (Check hex) tt e
  check_within (hex ∷ d ∷ more) e = no_form e

  named_within : (words : List (List ℕ)) → form_by_name words ≡ Some form → IsLimited form
  unfolding form_by_name
  named_within [] e = no_form e
  named_within (command ∷ rest) e =
      by_tests (bytes_eq command (codes "build")) (bytes_eq command (codes "trace")) (bytes_eq command (codes "sim")) (bytes_eq command (codes "agree")) (bytes_eq command (codes "gen")) (bytes_eq command (codes "check"))
      (bytes_eq command (codes "build84")) (bytes_eq command (codes "sim84")) e
    where
      by_tests : (u v w x y z q s : Bool)
          → (if u then build_of Pic16F877a rest else if v then trace_of rest else if w then simulate_of Pic16F877a rest else if x then agree_of rest else if y then generate_of rest else if z then check_of rest else if q then build_of Pic16F84a rest else if s then simulate_of Pic16F84a rest else None) ≡ Some form
          → IsLimited form
      by_tests true v w x y z q s e = build_within Pic16F877a rest e
      by_tests false true w x y z q s e = trace_within rest e
      by_tests false false true x y z q s e = simulation_within Pic16F877a rest e
      by_tests false false false true y z q s e = agreement_within rest e
      by_tests false false false false true z q s e = program_within rest e
      by_tests false false false false false true q s e = check_within rest e
      by_tests false false false false false false true s e = build_within Pic16F84a rest e
      by_tests false false false false false false false true e = simulation_within Pic16F84a rest e
      by_tests false false false false false false false false e = no_form e

  words_within : (words : List (List ℕ)) → form_of words ≡ Some form → IsLimited form
  words_within words e = by_test (list_all is_name words) e where
    by_test : (x : Bool) → (if x then form_by_name words else None) ≡ Some form → IsLimited form
    by_test true e = named_within words e
    by_test false e = no_form e

pub command_within : (command : Option declared.Command) (words : List (List ℕ)) → option_map form_view command ≡ form_of words → IsWithin command
command_within None words e = tt
command_within (Some (commands.Build files)) words e = tt
command_within (Some (commands.Trace asked)) words e = tt
command_within (Some (commands.Simulate simulated)) words e = tt
command_within (Some (commands.Agree compared)) words e = words_within (form_view (commands.Agree compared)) words (sym e)
command_within (Some (commands.Generate size)) words e = words_within (Generate size) words (sym e)
command_within (Some (commands.Check hex)) words e = tt
