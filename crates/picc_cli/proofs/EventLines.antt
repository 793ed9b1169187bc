-- The lines of events, printed one by one.
use Rattle.std.proofs.Common.{◌≡◌, ℕ, ◌+◌, ◌<◌, ◌≤◌, Option, Some, None, List, [], ◌∷◌, ◌++◌, length, take, drop, refl, sym, ap, ◌∙◌, subst, append_assoc, append-nil, option_map}
use Rattle.std.proofs.Math.ListN.{get_or}
use Rattle.std.proofs.lemmas.List.{take_more, take_all, take-append-drop}
use Rattle.host_io.specs.Host.{PrintsPrefix}
use Rattle.pic_world.specs.declared.Event.{Event}
use Rattle.pic_map.specs.EventText.{CanBeShown, event_text}
use Rattle.pic_map.specs.MapContent.{MapContent}
use Rattle.picc_cli.specs.Lines.{event_lines}
use Rattle.picc_cli.specs.Trace.{AllShown}
use Rattle.host_lines.proofs.Prefixes.{longer, later}

module _ (content : MapContent) where
  abbrev lines : List Event → List ℕ
  lines es = event_lines content es

  lines_joined : (a b : List Event) → lines (a ++ b) ≡ lines a ++ lines b
  lines_joined [] b = refl
  lines_joined (x ∷ a) b = ap (λ t. event_text content x ++ t) (lines_joined a b) ∙ sym (append_assoc (event_text content x) (lines a) (lines b))

  shown_joined : (a : List Event) (e : Event) → AllShown content a → CanBeShown content e → AllShown content (a ++ e ∷ [])
  shown_joined [] e all one = (one, tt)
  shown_joined (x ∷ a) e all one = (all.0, shown_joined a e all.1 one)

  -- the events up to one more
  taken : (events : List Event) (i : ℕ) (e : Event) → i < length events → e ≡ get_or events i e → take (i + 1) events ≡ take i events ++ e ∷ []
  taken events i e low is = take_more {X = Event} events i e low ∙ ap (λ x. take i events ++ x ∷ []) (sym is)

  taken_lines : (events : List Event) (i : ℕ) (e : Event) → i < length events → e ≡ get_or events i e → lines (take (i + 1) events) ≡ lines (take i events) ++ event_text content e
  taken_lines events i e low is =
      ap lines (taken events i e low is) ∙ lines_joined (take i events) (e ∷ []) ∙ ap (λ t. lines (take i events) ++ t) (append-nil (event_text content e))

  pub none_shown : (events : List Event) → AllShown content (take 0 events)
  none_shown [] = tt
  none_shown (e ∷ events) = tt

  pub none_printed : (events : List Event) (p : Option (List ℕ)) → p ≡ option_map (λ t. t ++ event_lines content (take 0 events)) p
  none_printed [] None = refl
  none_printed [] (Some t) = ap Some (sym (append-nil t))
  none_printed (e ∷ events) None = refl
  none_printed (e ∷ events) (Some t) = ap Some (sym (append-nil t))

  pub more_shown : (events : List Event) (i : ℕ) (e : Event) → i < length events → e ≡ get_or events i e → AllShown content (take i events) → CanBeShown content e → AllShown content (take (i + 1) events)
  more_shown events i e low is all one = subst (AllShown content) (sym (taken events i e low is)) (shown_joined (take i events) e all one)

  joined : (p : Option (List ℕ)) (a b : List ℕ) → option_map (λ t. t ++ b) (option_map (λ t. t ++ a) p) ≡ option_map (λ t. t ++ (a ++ b)) p
  joined None a b = refl
  joined (Some t) a b = ap Some (append_assoc t a b)

  pub more_printed : (events : List Event) (i : ℕ) (e : Event) (p q r : Option (List ℕ)) → i < length events → e ≡ get_or events i e
      → q ≡ option_map (λ t. t ++ event_lines content (take i events)) p → r ≡ option_map (λ t. t ++ event_text content e) q
      → r ≡ option_map (λ t. t ++ event_lines content (take (i + 1) events)) p
  more_printed events i e p q r low is first second =
      second ∙ ap (option_map (λ t. t ++ event_text content e)) first ∙ joined p (lines (take i events)) (event_text content e)
      ∙ ap (λ l. option_map (λ t. t ++ l) p) (sym (taken_lines events i e low is))

  pub all_shown : (events : List Event) (i : ℕ) → length events ≤ i → AllShown content (take i events) → AllShown content events
  all_shown events i long all = subst (AllShown content) (take_all i events long) all

  pub all_printed : (events : List Event) (i : ℕ) (p q : Option (List ℕ)) → length events ≤ i → q ≡ option_map (λ t. t ++ event_lines content (take i events)) p
      → q ≡ option_map (λ t. t ++ event_lines content events) p
  all_printed events i p q long e = e ∙ ap (λ es. option_map (λ t. t ++ event_lines content es) p) (take_all i events long)

  -- a line that is broken off
  pub line_broken : (events : List Event) (i : ℕ) (e : Event) (p q r : Option (List ℕ)) → i < length events → e ≡ get_or events i e
      → q ≡ option_map (λ t. t ++ event_lines content (take i events)) p → PrintsPrefix q r (event_text content e) → PrintsPrefix p r (event_lines content events)
  line_broken events i e p q r low is first second =
      let front = later p q r (lines (take i events)) (event_text content e) first second in
      let longer_text = longer p r (lines (take i events) ++ event_text content e) (lines (drop (i + 1) events)) front in
      let split = ap lines (sym (take-append-drop (i + 1) events)) ∙ lines_joined (take (i + 1) events) (drop (i + 1) events) ∙ ap (λ t. t ++ lines (drop (i + 1) events)) (taken_lines events i e low is) in
      subst (PrintsPrefix p r) (sym split) longer_text
