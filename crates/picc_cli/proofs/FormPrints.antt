-- What a command prints, by what its parts print.
use Rattle.std.proofs.Common.{◌≡◌, ℕ, inl, inr, Option, Some, None, List, [], ◌++◌, refl, sym, ap, ◌∙◌, subst, arith, append_assoc, option_map}
use Rattle.host_io.specs.Host.{Kind, PrintsPrefix}
use Rattle.picc_cli.specs.declared.simulating.Ended as chip_ends
use Rattle.picc_cli.specs.declared.simulating.Ended.TheVariants.{Done, Unmodelled, NoHex, NoMap, NoScript, CannotPrint, NoMemory}
use Rattle.picc_cli.specs.Chip.{Leads, IsChipText, last_line, status_of}
use Rattle.picc_cli.specs.Command.{Simulated}
use Rattle.picc_cli.specs.Lines.{event_lines}
use Rattle.host_lines.specs.Said.{GivesUp, Says, Prints}
use Rattle.picc_cli.proofs.Endings.{add_nothing, said_prefix}
use Rattle.host_lines.proofs.Prefixes.{longer, later}
use Rattle.picc_cli.proofs.Files.{take_all}

pub then_more : (p middle q : Option (List ℕ)) (a b : List ℕ) → middle ≡ option_map (λ t. t ++ a) p → q ≡ option_map (λ t. t ++ b) middle → q ≡ option_map (λ t. t ++ (a ++ b)) p
then_more None middle q a b e f = f ∙ ap (option_map (λ t. t ++ b)) e
then_more (Some t) middle q a b e f = f ∙ ap (option_map (λ t. t ++ b)) e ∙ ap Some (append_assoc t a b)

pub prefix_of_nothing : (p q : Option (List ℕ)) → PrintsPrefix p q [] → q ≡ p
prefix_of_nothing p q (n, short, e) = e ∙ ap (λ l. option_map (λ t. t ++ l) p) (take_all [] n (omega arith)) ∙ add_nothing p

-- nothing is said behind it
nothing_said : (kind : Kind) (before now : ℕ) (middle q : Option (List ℕ)) (status result : ℕ) → Says kind before now middle q [] status result → q ≡ middle
nothing_said kind before now middle q status result says = prefix_of_nothing middle q (said_prefix kind before now middle q [] status result says)

said_up : (kind : Kind) (before now : ℕ) (middle q : Option (List ℕ)) (line : List ℕ) (status result : ℕ) → GivesUp status → Says kind before now middle q line status result → GivesUp result
said_up kind before now middle q line status result up (inl s) = subst GivesUp (sym s.ends) up
said_up kind before now middle q line status result up (inr u) = u.ends

-- what is said is this text
pub says_text : (kind : Kind) (before now : ℕ) (p q : Option (List ℕ)) (line text : List ℕ) (status result : ℕ) → line ≡ text → Says kind before now p q line status result
    → Says kind before now p q text status result
says_text kind before now p q line text status result e says = subst (λ t. Says kind before now p q t status result) e says

module _ {E : Type 0} (status_of : E → ℕ) (IsText : E → List ℕ → Type 0) where
  -- one line, and nothing before it
  pub prints_line : (ended : E) (kind : Kind) (before now : ℕ) (p middle q : Option (List ℕ)) (line : List ℕ) (result : ℕ) → IsText ended line → middle ≡ p
      → Says kind before now middle q line (status_of ended) result → Prints status_of IsText p q result
  prints_line ended kind before now p middle q line result is same (inl s) =
      record {
        whole = inr (ended, line, sym s.ends, is, s.printed ∙ ap (option_map (λ t. t ++ line)) same);
        prefix = λ _. (ended, line, is, subst (λ o. PrintsPrefix o q line) same (said_prefix kind before now middle q line (status_of ended) result (inl s)));
      }
  prints_line ended kind before now p middle q line result is same (inr u) =
      record { whole = inl u.ends; prefix = λ _. (ended, line, is, subst (λ o. PrintsPrefix o q line) same u.printed) }

  -- a line behind others
  pub prints_behind : (ended : E) (kind : Kind) (before now : ℕ) (p middle q : Option (List ℕ)) (front line : List ℕ) (result : ℕ) → IsText ended (front ++ line)
      → middle ≡ option_map (λ t. t ++ front) p → Says kind before now middle q line (status_of ended) result → Prints status_of IsText p q result
  prints_behind ended kind before now p middle q front line result is first (inl s) =
      record {
        whole = inr (ended, front ++ line, sym s.ends, is, then_more p middle q front line first s.printed);
        prefix = λ _. (ended, front ++ line, is, later p middle q front line first (said_prefix kind before now middle q line (status_of ended) result (inl s)));
      }
  prints_behind ended kind before now p middle q front line result is first (inr u) =
      record { whole = inl u.ends; prefix = λ _. (ended, front ++ line, is, later p middle q front line first u.printed) }

  -- lines that are broken off, and nothing behind them
  pub prints_broken : (ended : E) (kind : Kind) (before now : ℕ) (p middle q : Option (List ℕ)) (front : List ℕ) (result : ℕ) → IsText ended (front ++ []) → GivesUp (status_of ended)
      → PrintsPrefix p middle front → Says kind before now middle q [] (status_of ended) result → Prints status_of IsText p q result
  prints_broken ended kind before now p middle q front result is up first says =
      let same = nothing_said kind before now middle q (status_of ended) result says in
      record {
        whole = inl (said_up kind before now middle q [] (status_of ended) result up says);
        prefix = λ _. (ended, front ++ [], is, longer p q front [] (subst (λ o. PrintsPrefix p o front) (sym same) first));
      }

-- ---- a simulation
pub chip_prints : (asked : Simulated) (ended : chip_ends.Ended) (kind : Kind) (before now : ℕ) (p middle q : Option (List ℕ)) (result : ℕ) → Leads ended p middle
    → Says kind before now middle q (last_line asked ended) (status_of ended) result → Prints status_of (IsChipText asked) p q result
chip_prints asked ended kind before now p middle q result (inl (at, same)) says =
    prints_line status_of (IsChipText asked) ended kind before now p middle q (last_line asked ended) result ([], inl (at, refl), refl) same says
chip_prints asked Done kind before now p middle q result (inr (content, run)) says =
    prints_behind status_of (IsChipText asked) Done kind before now p middle q (event_lines content run.0) [] result
    (event_lines content run.0, inr (content, run.0, refl), refl) run.2 says
chip_prints asked (Unmodelled at) kind before now p middle q result (inr (content, run)) says =
    prints_behind status_of (IsChipText asked) (Unmodelled at) kind before now p middle q (event_lines content run.0) (last_line asked (Unmodelled at)) result
    (event_lines content run.0, inr (content, run.0, refl), refl) run.2 says
chip_prints asked CannotPrint kind before now p middle q result (inr (content, run)) says =
    prints_broken status_of (IsChipText asked) CannotPrint kind before now p middle q (event_lines content run.0) result
    (event_lines content run.0, inr (content, run.0, refl), refl) (inl refl) run.1 says
chip_prints asked NoMemory kind before now p middle q result (inr (content, run)) says =
    prints_broken status_of (IsChipText asked) NoMemory kind before now p middle q (event_lines content run.0) result
    (event_lines content run.0, inr (content, run.0, refl), refl) (inr refl) run.1 says
chip_prints asked (NoHex end) kind before now p middle q result (inr (content, none)) says = absurd none
chip_prints asked (NoMap end) kind before now p middle q result (inr (content, none)) says = absurd none
chip_prints asked (NoScript end) kind before now p middle q result (inr (content, none)) says = absurd none
