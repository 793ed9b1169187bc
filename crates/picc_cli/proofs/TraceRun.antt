-- What a run prints, step by step.
use Rattle.std.proofs.Common.{◌≡◌, ℕ, ◌+◌, ◌<◌, ◌≤◌, inl, inr, Option, Some, None, List, [], ◌∷◌, ◌++◌, refl, sym, ap, ◌∙◌, subst, arith, append_assoc, append-nil, option_map}
use Rattle.std.proofs.lemmas.List.{length-append}
use Rattle.host_io.specs.Host.{PrintsPrefix}
use Rattle.pic_world.specs.declared.Event.{Event}
use Rattle.pic_map.specs.EventText.{CanBeShown, event_text}
use Rattle.pic_map.specs.MapContent.{MapContent}
use Rattle.picc_cli.specs.declared.tracing.Ended.{Ended}
use Rattle.picc_cli.specs.declared.tracing.Ended.TheVariants.{Done, Undefined, Refused, CannotReadText, NoScript, CannotPrint, NoMemory}
use Rattle.picc_cli.specs.Lines.{event_lines}
use Rattle.picc_cli.specs.Trace.{IsMap, AllShown, AreLines, AreEventLines, Leads, Takes, BreaksLine, BreaksLines, Stops}
use Rattle.picc_cli.proofs.Endings.{whole_line}
use Rattle.host_lines.proofs.Prefixes.{later}

-- what was printed since the run began, by lines of so many events at most
abbrev pub HasLines : MapContent → ℕ → Option (List ℕ) → Option (List ℕ) → Type 0
HasLines content most old new = (text : List ℕ) × AreLines content most text × (new ≡ option_map (λ t. t ++ text) old)

-- ---- one event more
lines_more : (content : MapContent) (es : List Event) (e : Event) → event_lines content (es ++ e ∷ []) ≡ event_lines content es ++ event_text content e
lines_more content [] e = append-nil (event_text content e)
lines_more content (x ∷ es) e = ap (λ t. event_text content x ++ t) (lines_more content es e) ∙ sym (append_assoc (event_text content x) (event_lines content es) (event_text content e))

shown_more : (content : MapContent) (es : List Event) (e : Event) → AllShown content es → CanBeShown content e → AllShown content (es ++ e ∷ [])
shown_more content [] e all one = (one, tt)
shown_more content (x ∷ es) e all one = (all.0, shown_more content es e all.1 one)

with_event : (content : MapContent) (most : ℕ) (text : List ℕ) (e : Event) → AreLines content most text → CanBeShown content e → AreLines content (most + 1) (text ++ event_text content e)
with_event content most text e lines one =
    record {
      events = lines.events ++ e ∷ [];
      few = let few = lines.few in omega (arith, length-append {A = Event} lines.events (e ∷ []));
      shown = shown_more content lines.events e lines.shown one;
      lines = ap (λ t. t ++ event_text content e) lines.lines ∙ sym (lines_more content lines.events e);
    }

wider : (content : MapContent) (few most : ℕ) (text : List ℕ) → few ≤ most → AreLines content few text → AreLines content most text
wider content few most text low lines = record { events = lines.events; few = let few = lines.few in omega arith; shown = lines.shown; lines = lines.lines }

no_lines : (content : MapContent) → AreLines content 0 []
no_lines content = record { events = []; few = omega arith; shown = tt; lines = refl }

pub begins : (content : MapContent) (p : Option (List ℕ)) → HasLines content 0 p p
begins content None = ([], no_lines content, refl)
begins content (Some t) = ([], no_lines content, ap Some (sym (append-nil t)))

-- ---- a step that was taken
joined : (p : Option (List ℕ)) (a b : List ℕ) → option_map (λ t. t ++ b) (option_map (λ t. t ++ a) p) ≡ option_map (λ t. t ++ (a ++ b)) p
joined None a b = refl
joined (Some t) a b = ap Some (append_assoc t a b)

pub took : (content : MapContent) (most : ℕ) (p q r : Option (List ℕ)) → HasLines content most p q → Takes content q r → HasLines content (most + 1) p r
took content most p q r (text, lines, e) (inl same) = (text, wider content most (most + 1) text (omega arith) lines, same ∙ e)
took content most p q r (text, lines, e) (inr (event, shown, f)) =
    (text ++ event_text content event, with_event content most text event lines shown, f ∙ ap (option_map (λ t. t ++ event_text content event)) e ∙ joined p text (event_text content event))

-- ---- the end of a run
by_map : (content : MapContent) (few most : ℕ) (text : List ℕ) → IsMap content → few ≤ most → AreLines content few text → AreEventLines most text
by_map content few most text map low lines = record { content = content; map = map; lines = wider content few most text low lines }

broke : (content : MapContent) (few most : ℕ) (p q r : Option (List ℕ)) → IsMap content → few < most → HasLines content few p q → BreaksLine content q r → BreaksLines most p r
broke content few most p q r map low (text, lines, e) (inl same) =
    (text, by_map content few most text map (omega arith) lines, subst (λ o. PrintsPrefix p o text) (sym (same ∙ e)) (whole_line p text))
broke content few most p q r map low (text, lines, e) (inr (event, shown, f)) = (
  text ++ event_text content event,
  by_map content (few + 1) most (text ++ event_text content event) map (omega arith) (with_event content few text event lines shown),
  later p q r text (event_text content event) e f,
)

pub stopped : (content : MapContent) (few most : ℕ) (ended : Ended) (p q r : Option (List ℕ)) → IsMap content → few < most → HasLines content few p q → Stops content ended q r
    → Leads most ended p r
stopped content few most Done p q r map low (text, lines, e) same = (text, by_map content few most text map (omega arith) lines, same ∙ e)
stopped content few most (Undefined kind line) p q r map low (text, lines, e) same = (text, by_map content few most text map (omega arith) lines, same ∙ e)
stopped content few most CannotPrint p q r map low has stops = broke content few most p q r map low has stops
stopped content few most NoMemory p q r map low has stops = inr (broke content few most p q r map low has stops)
stopped content few most (Refused refusal) p q r map low has stops = absurd stops
stopped content few most CannotReadText p q r map low has stops = absurd stops
stopped content few most (NoScript end) p q r map low has stops = absurd stops

pub all_taken : (content : MapContent) (few most : ℕ) (p q : Option (List ℕ)) → IsMap content → few ≤ most → HasLines content few p q → Leads most Done p q
all_taken content few most p q map low (text, lines, e) = (text, by_map content few most text map low lines, e)
