-- What clap finds in words of which none begins with `-`.
use Rattle.std.proofs.Common.{◌≡◌, ◌∙◌, ◌⊎◌, inl, inr, ℕ, Bool, true, false, not, ◌&&◌, ◌||◌, cond, true≢false, refl, sym, ap, ap₂, subst, List, [], ◌∷◌, ◌++◌, length, nat_eq, Option, Some, None, option_map, option_and_then, codes, fold, append-nil, append_assoc, bytes_eq, arith, is_some}
use Rattle.std.specs.List.{list_all}
use Rattle.std.specs.Option.{option_map_or}
use Rattle.std.specs.Cmp.Lexicographic.{bytes_decides}
use Rattle.clap.specs.Kinds.{Kinds, or_else}
use Rattle.clap.specs.Faults.{entered_fault, fault_of, is_simple_and_free, level_fault, step_fault, stray_fault, turn_fault, walk_fault}
use Rattle.clap.specs.Lexer.{long_of, long_of_rest, short_of, short_of_rest, strip_byte}
use Rattle.clap.specs.Simple.{App, Shape, built, entered, is_simple, names_of, new_shape, subcommand_of}
use Rattle.clap.specs.Takes.{bundle_passes, default_passes, entered_passes, flag_word_passes, is_valid, level_passes, other_passes, settle_passes, step_passes, takes, turn_passes, walk_passes}
use Rattle.clap.specs.Walk.{Held, Names, Rule, Step, Text, Walk, after_step, arg_by_index, finished, idle, long_or_other, nothing_held, positional, rows_after, short_or_plain, subcommand_met, subcommand_or_other, takes_several, trailing, value, walk, walk_from, walked, word_met}
use Rattle.clap.specs.declared.builder.action.ArgAction.TheVariants.{Set}
use Rattle.clap.specs.declared.builder.value_parser.ValueParser.TheVariants as parser
use Rattle.clap.proofs.OnLiterals.{clap_on_literals}
use Rattle.clap.proofs.WalkLemmas.{both, walk_stopped}
use Rattle.std.specs.Prelude.{Box, unwrap_or}
use Rattle.std.specs.Box.{box_value}
use Rattle.clap.specs.Words.{HasMatchesOf, Row, all_of, subcommand_name_of, subcommand_rows, subcommand_rows_of}
use Rattle.clap.specs.declared.parser.matches.ArgMatches.{ArgMatches}
use Rattle.clap.specs.declared.parser.matches.ArgMatches.TheViews.{out-ArgMatches, out-SubCommand}
use Rattle.clap.specs.declared.parser.matches.SubCommand.{SubCommand}
use Rattle.picc_cli.specs.Command.{is_name, form_by_name}
use Rattle.picc_cli.specs.Clap.{forms_app, words_found, words_in, words_rule}

-- ---- words
not_hyphen : (b : Bool) → not b ≡ true → b ≡ false
not_hyphen true e = absurd (true≢false (sym e))
not_hyphen false e = refl

module _ (word : Text) (e : is_name word ≡ true) where
  -- it is none of the words that clap reads as options
  no_front : strip_byte 45 word ≡ None
  no_front = front word e
    where
      front : (w : Text) → is_name w ≡ true → strip_byte 45 w ≡ None
      front [] f = refl
      front (x ∷ xs) f = ap (λ b. cond b (Some xs) None) (not_hyphen (nat_eq x 45) f)

  no_hyphens : bytes_eq word (45 ∷ 45 ∷ []) ≡ false
  no_hyphens = apart word e
    where
      apart : (w : Text) → is_name w ≡ true → bytes_eq w (45 ∷ 45 ∷ []) ≡ false
      apart [] f = refl
      apart (x ∷ xs) f = ap (λ b. b && bytes_eq xs (45 ∷ [])) (not_hyphen (nat_eq x 45) f)

  no_long : long_of word ≡ None
  no_long = ap (λ o. option_and_then long_of_rest (option_and_then (strip_byte 45) o)) no_front

  no_short : short_of word ≡ None
  no_short = ap (λ o. option_and_then short_of_rest o) no_front

  -- it goes to a place
  word_value : (c : List Rule) (position : ℕ) (h : Held) → word_met c [] false positional position word h ≡ (h, value)
  word_value c position h =
      ap (λ b. cond b (h, trailing position) (long_or_other c positional word (long_of word) h)) no_hyphens
      ∙ ap (λ o. long_or_other c positional word o h) no_long ∙ ap (λ o. short_or_plain c positional word o h) no_short

  idle_value : (c : List Rule) (names : Names) (position : ℕ) (h : Held) → subcommand_met names idle word ≡ None → word_met c names false idle position word h ≡ (h, value)
  idle_value c names position h none =
      ap (λ o. subcommand_or_other c o idle position word h) none
      ∙ ap (λ b. cond b (h, trailing position) (long_or_other c idle word (long_of word) h)) no_hyphens
      ∙ ap (λ o. long_or_other c idle word o h) no_long ∙ ap (λ o. short_or_plain c idle word o h) no_short

  word_is_taken : (s : Shape) (h : Held) → other_passes s None word h ≡ true
  word_is_taken s h =
      ap (λ b. b || flag_word_passes s.rules s.args_override_self (long_of word) word h) no_hyphens
      ∙ ap (λ o. flag_word_passes s.rules s.args_override_self o word h) no_long
      ∙ ap (λ o. option_map_or (λ flags. bundle_passes s.rules s.args_override_self flags h) o true) no_short

-- ---- the places of a subcommand
abbrev rule : ℕ → Rule
rule n = record (words_rule n) {
  index = Some 1;
  action = Some Set;
  parser = Some parser.String;
  range = Some (record { start_inclusive = n; end_inclusive = n });
}

module _ (n : ℕ) (several : takes_several (rule n) ≡ true) where
  abbrev at : List Text → Walk
  at seen = record {
    held = record { rows = []; pending = Some (codes "words", seen); skip = 0 };
    waiting = positional;
    position = 1;
    is_trailing = false;
    stopped = None;
  }

  next : (seen : List Text) (word : Text) → is_name word ≡ true → walked (rule n ∷ []) [] (at seen) word ≡ at (seen ++ word ∷ [])
  unfolding walked
  next seen word e = ap (λ (p : Held × Step). after_step (rule n ∷ []) word (at seen) p.0 p.1) (word_value word e (rule n ∷ []) 1 (at seen).held) ∙ rw several refl

  first : (word : Text) → is_name word ≡ true → walked (rule n ∷ []) [] (walk_from nothing_held) word ≡ at (word ∷ [])
  unfolding walked
  first word e = ap (λ (p : Held × Step). after_step (rule n ∷ []) word (walk_from nothing_held) p.0 p.1) (idle_value word e (rule n ∷ []) [] 1 nothing_held refl) ∙ rw several refl

  others : (seen words : List Text) → list_all is_name words ≡ true → fold (walked (rule n ∷ []) []) (at seen) words ≡ at (seen ++ words)
  others seen [] e = ap at (sym (append-nil seen))
  others seen (x ∷ xs) e =
      let parts = both _ _ e in
      ap (λ (w : Walk). fold (walked (rule n ∷ []) []) w xs) (next seen x parts.0) ∙ others (seen ++ x ∷ []) xs parts.1 ∙ ap at (append_assoc seen (x ∷ []) xs)

  pub walk_places : (word : Text) (words : List Text) → list_all is_name (word ∷ words) ≡ true → walk (rule n ∷ []) [] nothing_held (word ∷ words) ≡ at (word ∷ words)
  walk_places word words e =
      let parts = both _ _ e in
      ap (λ (w : Walk). fold (walked (rule n ∷ []) []) w words) (first word parts.0) ∙ others (word ∷ []) words parts.1

  -- the words that are found are those that stand there
  pub places_found : (name : Text) (words : List Text) → list_all is_name words ≡ true → words_in (Some (name, rows_after (rule n ∷ []) [] words)) ≡ name ∷ words
  places_found name [] e = refl
  places_found name (word ∷ words) e = ap (λ (w : Walk). words_in (Some (name, finished (rule n ∷ []) w.held))) (walk_places word words e)

-- ---- a word that has no place is a fault
or_else_left : (a b : Kinds) → or_else a b ≡ [] → a ≡ []
or_else_left [] b e = refl
or_else_left (k ∷ ks) b e = e

abbrev is_nil : Kinds → Bool
is_nil [] = true
is_nil (k ∷ ks) = false

cons_is_some : (kinds : Kinds) → is_nil kinds ≡ false → kinds ≡ [] → ⊥
cons_is_some kinds more e = true≢false (sym (ap is_nil e) ∙ more)

or_else_right : (a b : Kinds) → or_else a b ≡ [] → b ≡ []
or_else_right [] b e = e
or_else_right (k ∷ ks) b e = absurd (cons_is_some (k ∷ ks) refl e)

abbrev idle_at : ℕ → Held → Walk
idle_at position h = record { held = h; waiting = idle; position = position; is_trailing = false; stopped = None }

stray : (s : Shape) (names : Names) (position : ℕ) (h : Held) (word : Text) → is_name word ≡ true → subcommand_met names idle word ≡ None
    → arg_by_index s.rules position ≡ None → turn_fault s names (idle_at position h) word ≡ [] → stray_fault s ≡ []
stray s names position h word e none place fault =
    let met = idle_value word e s.rules names position h none in
    let step = or_else_right _ _ fault in
    let stopped = subst (λ (p : Held × Step). step_fault s position p.0 p.1 ≡ []) met step in
    rw place at stopped

-- ---- the command line
abbrev line : App
line = built forms_app

abbrev names : Names
names = names_of line

abbrev stopped_at : Text → List Text → Walk
stopped_at name words = record (walk_from nothing_held) { stopped = Some (name, words) }

abbrev leaf : Text → ℕ → Shape
leaf name n = record (new_shape name) {
  rules = rule n ∷ [];
  no_binary_name = true;
  disable_help_flag = true;
  disable_help_subcommand = true;
  is_built = true;
}

-- the command line has a subcommand of this name, with n places
record IsForm (name : Text) (n : ℕ) : Type 0 where
  met : walked [] names (walk_from nothing_held) name ≡ stopped_at name []
  turn : turn_passes line.top names (walk_from nothing_held) name ≡ true
  enters : (words : List Text) → entered line (Some (name, words)) ≡ Some (name, rows_after (rule n ∷ []) [] words)
  passes : (words : List Text) → entered_passes line (Some (name, words)) ≡ level_passes (leaf name n) [] nothing_held words false
  faults : (words : List Text) → entered_fault line (Some (name, words)) ≡ level_fault (leaf name n) [] nothing_held words false []

build_form : IsForm (codes "build") 3
unfolding clap_on_literals
build_form = record { met = refl; turn = refl; enters = λ words. refl; passes = λ words. refl; faults = λ words. refl }

trace_form : IsForm (codes "trace") 3
unfolding clap_on_literals
trace_form = record { met = refl; turn = refl; enters = λ words. refl; passes = λ words. refl; faults = λ words. refl }

simulate_form : IsForm (codes "sim") 4
unfolding clap_on_literals
simulate_form = record { met = refl; turn = refl; enters = λ words. refl; passes = λ words. refl; faults = λ words. refl }

agree_form : IsForm (codes "agree") 3
unfolding clap_on_literals
agree_form = record { met = refl; turn = refl; enters = λ words. refl; passes = λ words. refl; faults = λ words. refl }

generate_form : IsForm (codes "gen") 1
unfolding clap_on_literals
generate_form = record { met = refl; turn = refl; enters = λ words. refl; passes = λ words. refl; faults = λ words. refl }

check_form : IsForm (codes "check") 1
unfolding clap_on_literals
check_form = record { met = refl; turn = refl; enters = λ words. refl; passes = λ words. refl; faults = λ words. refl }

build84_form : IsForm (codes "build84") 3
unfolding clap_on_literals
build84_form = record { met = refl; turn = refl; enters = λ words. refl; passes = λ words. refl; faults = λ words. refl }

simulate84_form : IsForm (codes "sim84") 4
unfolding clap_on_literals
simulate84_form = record { met = refl; turn = refl; enters = λ words. refl; passes = λ words. refl; faults = λ words. refl }

is_simple_line : is_simple forms_app ≡ true
unfolding clap_on_literals
is_simple_line = refl

pub is_free_line : is_simple_and_free forms_app ≡ true
unfolding clap_on_literals
is_free_line = refl

module _ (name : Text) (n : ℕ) (form : IsForm name n) where
  walk_line : (words : List Text) → walk [] names nothing_held (name ∷ words) ≡ stopped_at name words
  walk_line words = ap (λ (w : Walk). fold (walked [] names) w words) form.met ∙ sym (walk_stopped [] names (walk_from nothing_held) name [] words)

  enters_line : (words : List Text) → subcommand_of forms_app (name ∷ words) ≡ Some (name, rows_after (rule n ∷ []) [] words)
  enters_line words = ap (λ (w : Walk). entered line w.stopped) (walk_line words) ∙ form.enters words

  -- what a parse takes
  after_stop : (seen words : List Text) → walk_passes line.top names (stopped_at name seen) words ≡ true
  unfolding walk_passes walked
  after_stop seen [] = refl
  after_stop seen (x ∷ xs) = after_stop (seen ++ x ∷ []) xs

  line_passes : (words : List Text) → walk_passes line.top names (walk_from nothing_held) (name ∷ words) ≡ true
  unfolding walk_passes
  line_passes words = ap₂ (λ (a b : Bool). a && b) form.turn (ap (λ (w : Walk). walk_passes line.top names w words) form.met ∙ after_stop [] words)

  abbrev line_takes : List Text → Walk → Bool
  line_takes words w = entered_passes line w.stopped && (walk_passes line.top names (walk_from nothing_held) (name ∷ words)
      && (settle_passes line.top.rules line.top.args_override_self w.held
      && (list_all default_passes line.top.rules && is_valid line.top (finished line.top.rules w.held) (is_some (entered line w.stopped)))))

  taken : (words : List Text) → level_passes (leaf name n) [] nothing_held words false ≡ true → takes forms_app (name ∷ words) ≡ true
  taken words level =
      let below = form.passes words ∙ level in
      ap (λ b. b && line_takes words (walk [] names nothing_held (name ∷ words))) is_simple_line ∙ ap (line_takes words) (walk_line words)
      ∙ ap₂ (λ (a b : Bool). a && (b && true)) below (line_passes words)

  -- what a parse refuses
  refused_below : (words : List Text) → fault_of forms_app (name ∷ words) ≡ [] → walk_fault (leaf name n) [] (walk_from nothing_held) words ≡ []
  refused_below words fault =
      let entered_none = or_else_left _ _ (or_else_right _ _ fault) in
      or_else_left _ _ (sym (form.faults words) ∙ subst (λ (w : Walk). entered_fault line w.stopped ≡ []) (walk_line words) entered_none)

-- ---- words enough
abbrev level_ends : Text → ℕ → Walk → Bool
level_ends name n w = settle_passes (rule n ∷ []) false w.held && (list_all default_passes (rule n ∷ []) && is_valid (leaf name n) (finished (rule n ∷ []) w.held) false)

first_taken : (name : Text) (n : ℕ) (word : Text) → is_name word ≡ true → turn_passes (leaf name n) [] (walk_from nothing_held) word ≡ true
first_taken name n word e =
    ap₂ (λ (a : Bool) (p : Held × Step). a && step_passes (leaf name n) 1 p.0 p.1) (word_is_taken word e (leaf name n) nothing_held) (idle_value word e (rule n ∷ []) [] 1 nothing_held refl)

module _ (name : Text) (n : ℕ) (several : takes_several (rule n) ≡ true) where
  next_taken : (seen : List Text) (word : Text) → is_name word ≡ true → turn_passes (leaf name n) [] (at n several seen) word ≡ true
  next_taken seen word e =
      ap₂ (λ (a : Bool) (p : Held × Step). a && step_passes (leaf name n) 1 p.0 p.1) (word_is_taken word e (leaf name n) (at n several seen).held)
      (word_value word e (rule n ∷ []) 1 (at n several seen).held) ∙ rw several refl

  others_taken : (seen words : List Text) → list_all is_name words ≡ true → walk_passes (leaf name n) [] (at n several seen) words ≡ true
  unfolding walk_passes
  others_taken seen [] e = refl
  others_taken seen (x ∷ xs) e =
      let parts = both _ _ e in
      ap₂ (λ (a : Bool) (w : Walk). a && walk_passes (leaf name n) [] w xs) (next_taken seen x parts.0) (next n several seen x parts.0) ∙ others_taken (seen ++ x ∷ []) xs parts.1

  places_taken : (word : Text) (words : List Text) → list_all is_name (word ∷ words) ≡ true → walk_passes (leaf name n) [] (walk_from nothing_held) (word ∷ words) ≡ true
  unfolding walk_passes
  places_taken word words e =
      let parts = both _ _ e in
      ap₂ (λ (a : Bool) (w : Walk). a && walk_passes (leaf name n) [] w words) (first_taken name n word parts.0) (first n several word parts.0) ∙ others_taken (word ∷ []) words parts.1

  level_taken : (word : Text) (words : List Text) → list_all is_name (word ∷ words) ≡ true → level_ends name n (at n several (word ∷ words)) ≡ true
      → level_passes (leaf name n) [] nothing_held (word ∷ words) false ≡ true
  level_taken word words e ends =
      ap₂ (λ (a : Bool) (w : Walk). a && level_ends name n w) (places_taken word words e) (walk_places n several word words e) ∙ ends

-- ---- one place alone
abbrev one_held : Text → Held
one_held word = record { rows = []; pending = Some (codes "words", word ∷ []); skip = 0 }

one_walked : (word : Text) → is_name word ≡ true → walked (rule 1 ∷ []) [] (walk_from nothing_held) word ≡ idle_at 2 (one_held word)
unfolding walked
one_walked word e = ap (λ (p : Held × Step). after_step (rule 1 ∷ []) word (walk_from nothing_held) p.0 p.1) (idle_value word e (rule 1 ∷ []) [] 1 nothing_held refl)

one_fault : (name a b : Text) (words : List Text) → is_name a ≡ true → is_name b ≡ true → walk_fault (leaf name 1) [] (walk_from nothing_held) (a ∷ b ∷ words) ≡ [] → ⊥
unfolding walk_fault
one_fault name a b words ea eb fault =
    let rest = or_else_right _ _ fault in
    let moved = subst (λ (w : Walk). walk_fault (leaf name 1) [] w (b ∷ words) ≡ []) (one_walked a ea) rest in
    cons_is_some _ refl (stray (leaf name 1) [] 2 (one_held a) b eb refl refl (or_else_left _ _ moved))

level_one : (name word : Text) → is_name word ≡ true → level_passes (leaf name 1) [] nothing_held (word ∷ []) false ≡ true
unfolding walk_passes
level_one name word e = ap₂ (λ (a : Bool) (w : Walk). (a && true) && level_ends name 1 w) (first_taken name 1 word e) (one_walked word e)

one_found : (name : Text) → IsForm name 1 → (words : List Text) → list_all is_name words ≡ true → fault_of forms_app (name ∷ words) ≡ []
    → words_in (Some (name, rows_after (rule 1 ∷ []) [] words)) ≡ name ∷ words
one_found name form [] e fault = refl
one_found name form (a ∷ []) e fault = ap (λ (w : Walk). words_in (Some (name, finished (rule 1 ∷ []) w.held))) (one_walked a (both _ _ e).0)
one_found name form (a ∷ b ∷ words) e fault =
    let parts = both _ _ e in
    absurd (one_fault name a b words parts.0 (both _ _ parts.1).0 (refused_below name 1 form (a ∷ b ∷ words) fault))

-- ---- the eight names
abbrev Differs : Text → Text → Type 0
Differs word name = (bytes_eq word name ≡ false) × (bytes_eq name word ≡ false)

word_is : (word name : Text) → (word ≡ name) ⊎ Differs word name
word_is word name = go (bytes_eq word name) (bytes_eq name word) refl refl
  where
    go : (a b : Bool) → bytes_eq word name ≡ a → bytes_eq name word ≡ b → (word ≡ name) ⊎ Differs word name
    go true b ea eb = inl ((bytes_decides word name).0 ea)
    go false true ea eb = inl (sym ((bytes_decides name word).0 eb))
    go false false ea eb = inr (ea, eb)

abbrev IsNone : Text → Type 0
IsNone word =
    Differs word (codes "build") × Differs word (codes "trace") × Differs word (codes "sim") × Differs word (codes "agree") × Differs word (codes "gen") × Differs word (codes "check") × Differs word (codes "build84") × Differs word (codes "sim84")

none_met : (word : Text) → IsNone word → subcommand_met names idle word ≡ None
none_met word (b, t, s, a, g, h, b84, s84) = rw (b.1, t.1, s.1, a.1, g.1, h.1, b84.1, s84.1) refl

none_form : (word : Text) (words : List Text) → IsNone word → form_by_name (word ∷ words) ≡ None
unfolding form_by_name
none_form word words (b, t, s, a, g, h, b84, s84) = rw (b.0, t.0, s.0, a.0, g.0, h.0, b84.0, s84.0) refl

none_fault : (word : Text) (words : List Text) → IsNone word → is_name word ≡ true → fault_of forms_app (word ∷ words) ≡ [] → ⊥
unfolding walk_fault
none_fault word words none e fault =
    let turn = or_else_left _ _ (or_else_left _ _ fault) in
    cons_is_some _ refl (stray line.top names 1 nothing_held word e (none_met word none) refl turn)

-- a word is one of the names, or none
module _ (P : Text → Type 0) (word : Text) (b : P (codes "build")) (t : P (codes "trace")) (s : P (codes "sim")) (a : P (codes "agree")) (g : P (codes "gen")) (h : P (codes "check")) (b84 : P (codes "build84")) (s84 : P (codes "sim84"))
    (none : IsNone word → P word) where
  by_name : P word
  by_name = elim (word_is word (codes "build")) [
    | inl e ↦ subst P (sym e) b
    | inr nb ↦ elim (word_is word (codes "trace")) [
      | inl e ↦ subst P (sym e) t
      | inr nt ↦ elim (word_is word (codes "sim")) [
        | inl e ↦ subst P (sym e) s
        | inr ns ↦ elim (word_is word (codes "agree")) [
          | inl e ↦ subst P (sym e) a
          | inr na ↦ elim (word_is word (codes "gen")) [
            | inl e ↦ subst P (sym e) g
            | inr ng ↦ elim (word_is word (codes "check")) [
              | inl e ↦ subst P (sym e) h
              | inr nh ↦ elim (word_is word (codes "build84")) [
                | inl e ↦ subst P (sym e) b84
                | inr nb84 ↦ elim (word_is word (codes "sim84")) [
                  | inl e ↦ subst P (sym e) s84
                  | inr ns84 ↦ none (nb, nt, ns, na, ng, nh, nb84, ns84)
                ]
              ]
            ]
          ]
        ]
      ]
    ]
  ]

-- ---- what is found where a parse succeeds
places_line : (name : Text) (n : ℕ) → takes_several (rule n) ≡ true → IsForm name n → (words : List Text) → list_all is_name words ≡ true
    → words_in (subcommand_of forms_app (name ∷ words)) ≡ name ∷ words
places_line name n several form words e = ap words_in (enters_line name n form words) ∙ places_found n several name words e

pub words_are_found : (words : List Text) → list_all is_name words ≡ true → fault_of forms_app words ≡ [] → words_in (subcommand_of forms_app words) ≡ words
words_are_found [] e fault = refl
words_are_found (word ∷ words) e fault =
    let parts = both _ _ e in
    by_name (λ w. fault_of forms_app (w ∷ words) ≡ [] → words_in (subcommand_of forms_app (w ∷ words)) ≡ w ∷ words) word
    (λ f. places_line (codes "build") 3 refl build_form words parts.1)
    (λ f. places_line (codes "trace") 3 refl trace_form words parts.1)
    (λ f. places_line (codes "sim") 4 refl simulate_form words parts.1)
    (λ f. places_line (codes "agree") 3 refl agree_form words parts.1)
    (λ f. ap words_in (enters_line (codes "gen") 1 generate_form words) ∙ one_found (codes "gen") generate_form words parts.1 f)
    (λ f. ap words_in (enters_line (codes "check") 1 check_form words) ∙ one_found (codes "check") check_form words parts.1 f)
    (λ f. places_line (codes "build84") 3 refl build84_form words parts.1)
    (λ f. places_line (codes "sim84") 4 refl simulate84_form words parts.1)
    (λ none f. absurd (none_fault word words none parts.0 f)) fault

-- ---- where a parse doesn't succeed
abbrev IsTaken : List Text → Type 0
IsTaken words = (takes forms_app words ≡ true) ⊎ (form_by_name words ≡ None)

three_taken : (name : Text) → IsForm name 3 → ((words : List Text) → (length words ≡ 3 → ⊥) → form_by_name (name ∷ words) ≡ None) → (words : List Text) → list_all is_name words ≡ true
    → IsTaken (name ∷ words)
three_taken name form other [] e = inr (other [] (λ h. absurd (omega arith)))
three_taken name form other (a ∷ []) e = inr (other (a ∷ []) (λ h. absurd (omega arith)))
three_taken name form other (a ∷ b ∷ []) e = inr (other (a ∷ b ∷ []) (λ h. absurd (omega arith)))
three_taken name form other (a ∷ b ∷ c ∷ []) e =
    inl (taken name 3 form (a ∷ b ∷ c ∷ []) (level_taken name 3 refl a (b ∷ c ∷ []) e refl))
three_taken name form other (a ∷ b ∷ c ∷ d ∷ words) e = inr (other (a ∷ b ∷ c ∷ d ∷ words) (λ h. absurd (omega arith)))

build_other : (words : List Text) → (length words ≡ 3 → ⊥) → form_by_name (codes "build" ∷ words) ≡ None
unfolding form_by_name
build_other [] h = refl
build_other (a ∷ []) h = refl
build_other (a ∷ b ∷ []) h = refl
build_other (a ∷ b ∷ c ∷ []) h = absurd (h refl)
build_other (a ∷ b ∷ c ∷ d ∷ words) h = refl

build84_other : (words : List Text) → (length words ≡ 3 → ⊥) → form_by_name (codes "build84" ∷ words) ≡ None
unfolding form_by_name
build84_other [] h = refl
build84_other (a ∷ []) h = refl
build84_other (a ∷ b ∷ []) h = refl
build84_other (a ∷ b ∷ c ∷ []) h = absurd (h refl)
build84_other (a ∷ b ∷ c ∷ d ∷ words) h = refl

trace_other : (words : List Text) → (length words ≡ 3 → ⊥) → form_by_name (codes "trace" ∷ words) ≡ None
unfolding form_by_name
trace_other [] h = refl
trace_other (a ∷ []) h = refl
trace_other (a ∷ b ∷ []) h = refl
trace_other (a ∷ b ∷ c ∷ []) h = absurd (h refl)
trace_other (a ∷ b ∷ c ∷ d ∷ words) h = refl

agree_other : (words : List Text) → (length words ≡ 3 → ⊥) → form_by_name (codes "agree" ∷ words) ≡ None
unfolding form_by_name
agree_other [] h = refl
agree_other (a ∷ []) h = refl
agree_other (a ∷ b ∷ []) h = refl
agree_other (a ∷ b ∷ c ∷ []) h = absurd (h refl)
agree_other (a ∷ b ∷ c ∷ d ∷ words) h = refl

simulate_taken : (words : List Text) → list_all is_name words ≡ true → IsTaken (codes "sim" ∷ words)
unfolding form_by_name
simulate_taken [] e = inr refl
simulate_taken (a ∷ []) e = inr refl
simulate_taken (a ∷ b ∷ []) e = inr refl
simulate_taken (a ∷ b ∷ c ∷ []) e = inr refl
simulate_taken (a ∷ b ∷ c ∷ d ∷ []) e =
    inl (taken (codes "sim") 4 simulate_form (a ∷ b ∷ c ∷ d ∷ []) (level_taken (codes "sim") 4 refl a (b ∷ c ∷ d ∷ []) e refl))
simulate_taken (a ∷ b ∷ c ∷ d ∷ f ∷ words) e = inr refl

simulate84_taken : (words : List Text) → list_all is_name words ≡ true → IsTaken (codes "sim84" ∷ words)
unfolding form_by_name
simulate84_taken [] e = inr refl
simulate84_taken (a ∷ []) e = inr refl
simulate84_taken (a ∷ b ∷ []) e = inr refl
simulate84_taken (a ∷ b ∷ c ∷ []) e = inr refl
simulate84_taken (a ∷ b ∷ c ∷ d ∷ []) e =
    inl (taken (codes "sim84") 4 simulate84_form (a ∷ b ∷ c ∷ d ∷ []) (level_taken (codes "sim84") 4 refl a (b ∷ c ∷ d ∷ []) e refl))
simulate84_taken (a ∷ b ∷ c ∷ d ∷ f ∷ words) e = inr refl

generate_taken : (words : List Text) → list_all is_name words ≡ true → IsTaken (codes "gen" ∷ words)
unfolding form_by_name
generate_taken [] e = inr refl
generate_taken (a ∷ []) e = inl (taken (codes "gen") 1 generate_form (a ∷ []) (level_one (codes "gen") a (both _ _ e).0))
generate_taken (a ∷ b ∷ words) e = inr refl

check_taken : (words : List Text) → list_all is_name words ≡ true → IsTaken (codes "check" ∷ words)
unfolding form_by_name
check_taken [] e = inr refl
check_taken (a ∷ []) e = inl (taken (codes "check") 1 check_form (a ∷ []) (level_one (codes "check") a (both _ _ e).0))
check_taken (a ∷ b ∷ words) e = inr refl

pub taken_or_none : (words : List Text) → list_all is_name words ≡ true → (takes forms_app words ≡ true) ⊎ (form_by_name words ≡ None)
unfolding form_by_name
taken_or_none [] e = inr refl
taken_or_none (word ∷ words) e =
    let parts = both _ _ e in
    by_name (λ w. IsTaken (w ∷ words)) word
    (three_taken (codes "build") build_form build_other words parts.1)
    (three_taken (codes "trace") trace_form trace_other words parts.1)
    (simulate_taken words parts.1)
    (three_taken (codes "agree") agree_form agree_other words parts.1)
    (generate_taken words parts.1)
    (check_taken words parts.1)
    (three_taken (codes "build84") build84_form build84_other words parts.1)
    (simulate84_taken words parts.1)
    (λ none. inr (none_form word words none))

-- ---- what the matches say
module _ (m : ArgMatches) where
  pub found_is : (name : Text) (rows : List Row) (values : Option (List Text)) → Some name ≡ subcommand_name_of m → Some rows ≡ option_map (λ p. p.1) (subcommand_rows_of m)
      → values ≡ all_of (codes "words") rows → words_found m ≡ name ∷ unwrap_or values []
  found_is name rows values named having all = go (out-ArgMatches m).subcommand named having
    where
      go : {Z : Type 0} (o : Option (Box SubCommand Z)) → Some name ≡ option_map (λ b. (out-SubCommand (box_value b)).name.now) o → Some rows ≡ option_map (λ p. p.1) (subcommand_rows o)
          → words_in (subcommand_rows o) ≡ name ∷ unwrap_or values []
      go None e f = absurd (true≢false (ap is_some e))
      go (Some b) e f =
          ap₂ (λ (n : Text) (vs : Option (List Text)). n ∷ unwrap_or vs []) (sym (ap (λ o. unwrap_or o name) e))
          (ap (all_of (codes "words")) (sym (ap (λ o. unwrap_or o rows) f)) ∙ sym all)

  pub none_found : None ≡ subcommand_name_of m → words_found m ≡ []
  none_found named = go (out-ArgMatches m).subcommand named
    where
      go : {Z : Type 0} (o : Option (Box SubCommand Z)) → None ≡ option_map (λ b. (out-SubCommand (box_value b)).name.now) o → words_in (subcommand_rows o) ≡ []
      go None e = refl
      go (Some b) e = absurd (true≢false (sym (ap is_some e)))

  pub parse_found : (app : App) (words : List Text) → app ≡ forms_app → list_all is_name words ≡ true → (is_simple_and_free app ≡ true → fault_of app words ≡ [])
      → HasMatchesOf app words m → words_found m ≡ words
  parse_found app words same plain free has =
      let fault : fault_of forms_app words ≡ [] = ap (λ (a : App). fault_of a words) (sym same) ∙ free (ap is_simple_and_free same ∙ is_free_line) in
      let rows = (has (ap is_simple same ∙ is_simple_line)).1 ∙ ap (λ (a : App). subcommand_of a words) same in
      ap words_in rows ∙ words_are_found words plain fault

pub parse_refused : (app : App) (words : List Text) (P : Type 0) → app ≡ forms_app → list_all is_name words ≡ true → (takes app words ≡ true → P) → (P → ⊥) → form_by_name words ≡ None
parse_refused app words P same plain passes never = elim (taken_or_none words plain) [
  | inl taken_words ↦ absurd (never (passes (ap (λ (a : App). takes a words) same ∙ taken_words)))
  | inr none ↦ none
]
