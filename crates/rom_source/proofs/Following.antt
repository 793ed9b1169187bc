-- Each micro-step of the given program is followed.
use Rattle.std.proofs.Common.{◌≡◌, ℕ, ◌<◌, inl, inr, Bool, true, false, ◌&&◌, if◌then◌else◌, List, [], ◌∷◌, length, Option, Some, None, refl, sym, ap, ◌∙◌, subst, ⊎_elim, arith}
use Rattle.std.proofs.lemmas.Bool.{and_parts}
use Rattle.std.specs.Prelude.{slice_get}
use Rattle.c_typed.specs.Trees.{Expression, StaticTree, FunctionTree, Program}
use Rattle.c_typed.specs.Types.{type_of}
use Rattle.c_typed.specs.declared.types.Qualified.{Qualified}
use Rattle.c_typed.specs.declared.types.Ty.{Ty}
use Rattle.pic_world.proofs.WorldLaws.{arrived_again}
use Rattle.pic_world.specs.World.{Outside, World, Happening, arrived, is_due, entered}
use Rattle.pic_world.specs.declared.Root.TheVariants.{Isr}
use Rattle.rom_source.proofs.Accesses.{agree_fresh}
use Rattle.rom_source.proofs.Acting.{IsCommon, act_same}
use Rattle.rom_source.proofs.Adding.{added_expression, added_statements}
use Rattle.rom_source.proofs.Counting.{counts_same}
use Rattle.rom_source.proofs.Facts.{TableAt, reads, read_is}
use Rattle.rom_source.proofs.Links.{Side, Left, Right, TableRead, read_at, index_got, sum_frames, Link, Plain, Index, Converted, given, added_focus, made, with_parts, IsMade, IsTableRead, AreLinks, Agree}
use Rattle.rom_source.proofs.Pausing.{still, finding, summing, starting, naming, spotting, pointing, converting, holding, starting_behind, naming_behind, spotting_behind, pointing_behind, summed, reached, fetching_goes, fetched_goes, index_value, converted_value, made_passed}
use Rattle.rom_source.proofs.Same.{Whole, Same}
use Rattle.rom_source.proofs.Standing.{Place, Common, Finding, Summing, Starting, Naming, Spotting, Pointing, Converting, Holding, StartingBehind, NamingBehind, SpottingBehind, PointingBehind, Summed, Reached, Fetching, Fetched, focus_at, stack_at, the_call, made_at, IsReading, Holds, Stand, Led}
use Rattle.rom_source.proofs.Standing as standing
use Rattle.rom_source.proofs.Stepping.{IfWent, Passed, counts_is, acted, goes_on, state_in}
use Rattle.rom_tables.specs.Tables.{tables_of, place_in, start_table}
use Rattle.src_rules.proofs.Starts.{sound_runs}
use Rattle.src_rules.specs.Laws.{IsProper}
use Rattle.src_rules.specs.Parts.{IsExpressionOf}
use Rattle.src_rules.specs.Runs.{one_if}
use Rattle.src_rules.specs.Standing.{Stands, FocusStands, HasType}
use Rattle.src_rules.specs.State.{State, state, Outcome, Went}
use Rattle.src_rules.specs.Step.{is_some_line, copy_of, body_of, act, interrupted, step, enters, counts}
use Rattle.src_values.specs.Control as control
use Rattle.src_values.specs.Control.{Focus, Got, Nothing, One, Pending, In, To, Before, Resumes}
use Rattle.src_values.specs.Counting.{counted_line}
use Rattle.src_values.specs.Data.{Datum}
use Rattle.src_values.specs.Memory.{Setting, Memory, fresh}
use Rattle.src_values.specs.Objects.{function_at, handler_in}
use Rattle.src_values.specs.declared.objects.Byte.{Byte}
use Rattle.src_values.specs.declared.objects.CopyOf.{CopyOf}

module _ (p : Program) (rows : List Qualified) (fs : List FunctionTree) (mk : IsMade p rows fs) (o : Outside) (sound : IsProper p) where
  abbrev pub q : Program
  q = with_parts p rows fs

  abbrev ts : List ℕ
  ts = tables_of p

  abbrev first : ℕ
  first = length p.functions

  abbrev s : Setting
  s = record { program = p; outside = o }

  abbrev g : Setting
  g = record { program = q; outside = o }

  -- ---- the same micro-step
  one_led : (t u v y : State) (event : Option (Happening Byte)) → step g v ≡ Went y event → counts g v ≡ counts s t → Stand p o u y → Led p s g t u v
  one_led t u v y event e same stand = record {
    place = y;
    count = 1;
    counted = one_if (counts g v);
    way = standing.Same v y event e;
    few = omega arith;
    some = λ h. let f = ap one_if (same ∙ h) in (omega arith, omega arith);
    none = λ h. let f = ap one_if (same ∙ h) in omega arith;
    stands = stand;
  }

  whole_stands : (u y : State) → Whole p u y → Stand p o u y
  whole_stands u y h = record { place = Common u.focus; links = h.links; memory = h.memory; world = u.world; focus = refl; stack = h.stack; is = h.is; small = h.small; agree = h.agree; proper = h.proper; holds = refl }

  went_to : (P : State → Option (Happening Byte) → Type 0) (out : Outcome) (u : State) (event : Option (Happening Byte)) → out ≡ Went u event → IfWent P out → P u event
  went_to P out u event e h = subst (IfWent P) e h

  module _ (c : CopyOf) (small : c.function < length p.functions) (m n : Memory) (agree : Agree p m n) where
    -- ---- the handler is entered
    entered_step : (h : ℕ) (x : Focus) (k : List Pending) (a : Setting) (b : Memory) (w : World Byte) → is_due (arrived a.outside w) ≡ true → handler_in a.program ≡ Some h
        → step a (state c x k b w) ≡ Went (state (copy_of Isr h) control.Past (body_of a.program h (Resumes c x ∷ k)) (fresh b (copy_of Isr h)) (entered (arrived a.outside w))) None
    unfolding step
    entered_step h x k a b w due is =
        ap (λ d. if d then interrupted a (handler_in a.program) x k c b (arrived a.outside w) else act a x k c b (arrived a.outside w)) due
        ∙ ap (λ f. interrupted a f x k c b (arrived a.outside w)) is

    entered_counts : (h : ℕ) (x : Focus) (k : List Pending) (a : Setting) (b : Memory) (w : World Byte) → is_due (arrived a.outside w) ≡ true → handler_in a.program ≡ Some h → counts a (state c x k b w) ≡ true
    unfolding counts enters
    entered_counts h x k a b w due is =
        ap (λ d. if d && is_some_line (handler_in a.program) then true else is_some_line (counted_line a.program c x k)) due
        ∙ ap (λ f. if is_some_line f then true else is_some_line (counted_line a.program c x k)) is

    enters_led : (h : ℕ) (x : Focus) (ls : List Link) (w : World Byte) → AreLinks p ls → is_due (arrived o w) ≡ true → handler_in p ≡ Some h → (u : State) (event : Option (Happening Byte)) → step s (state c x (given ls) m w) ≡ Went u event
        → Led p s g (state c x (given ls) m w) u (state c (added_focus ts first x) (made ts first ls) n w)
    unfolding given made AreLinks
    enters_led h x ls w z due is u event goes =
        let there = (sound_runs p sound.sound sound.roots sound.numbers).handler_there h is in
        let a = entered_step h x (given ls) s m w due is in
        let b = entered_step h (added_focus ts first x) (made ts first ls) g n w due (mk.handler ∙ is) in
        let body : (function_at q h).body ≡ added_statements ts first (function_at p h).body = ap (λ (f : FunctionTree). f.body) (mk.functions h there) in
        let d = copy_of Isr h in
        subst (λ u. Led p s g (state c x (given ls) m w) u (state c (added_focus ts first x) (made ts first ls) n w)) (ap (state_in u) (sym a ∙ goes))
        (one_led _ _ _ (state d control.Past (Before (added_statements ts first (function_at p h).body) ∷ Resumes c (added_focus ts first x) ∷ made ts first ls) (fresh n d) (entered (arrived o w))) None
        (b ∙ ap (λ ss. Went (state d control.Past (Before ss ∷ Resumes c (added_focus ts first x) ∷ made ts first ls) (fresh n d) (entered (arrived o w))) None) body)
        (entered_counts h (added_focus ts first x) (made ts first ls) g n w due (mk.handler ∙ is) ∙ sym (entered_counts h x (given ls) s m w due is))
        (record { place = Common control.Past; links = Plain (Before (function_at p h).body) ∷ Plain (Resumes c x) ∷ ls; memory = fresh n d; world = entered (arrived o w); focus = refl; stack = refl; is = refl; small = there; agree = agree_fresh p m n d agree; proper = (tt, (small, z)); holds = refl }))

    -- ---- both act
    common_led : (x : Focus) (ls : List Link) (w : World Byte) → IsCommon p x ls → AreLinks p ls → Passed s (arrived o w) → Stands p (state c x (given ls) m w) → (u : State) (event : Option (Happening Byte)) → step s (state c x (given ls) m w) ≡ Went u event
        → Led p s g (state c x (given ls) m w) u (state c (added_focus ts first x) (made ts first ls) n w)
    common_led x ls w common z passed stands u event goes =
        let w1 = arrived o w in
        let a = acted s c x (given ls) m w w1 refl u event passed goes in
        let same = subst (λ out. Same p out (act g (added_focus ts first x) (made ts first ls) c n w1)) a.goes (act_same p rows fs mk o c small m n agree w1 x ls common stands.reached stands.focus stands.stack z) in
        let count = counts_same p rows fs mk o c small m n agree w1 x ls common stands.focus stands.stack in
        let own = made_passed p rows fs mk o sound w1 passed in
        let may = ⊎_elim (λ free. inl free) (λ none. inr (count ∙ none)) a.may in
        one_led _ u _ same.0 event
        (goes_on g c (added_focus ts first x) (made ts first ls) n w w1 refl same.0 event own may same.1)
        (counts_is g c (added_focus ts first x) (made ts first ls) n w w1 refl own ∙ (count ∙ sym (counts_is s c x (given ls) m w w1 refl passed)))
        (whole_stands u same.0 same.2)

    -- ---- a read of a table begins
    call_is : (side : Side) (r : TableRead) → place_in r.object 0 ts ≡ Some r.table → ((side ≡ Right) → start_table ts r.index ≡ None) → added_expression ts first (read_at side r) ≡ the_call p r
    unfolding added_expression
    call_is Left r place lone = rw place refl
    call_is Right r place lone = rw (lone refl, place) refl

    read_led : (e : Expression) (ls : List Link) (w : World Byte) (h : TableAt p e) → AreLinks p ls → Passed s (arrived o w) → Stands p (state c (control.Eval e) (given ls) m w) → (u : State) (event : Option (Happening Byte)) → step s (state c (control.Eval e) (given ls) m w) ≡ Went u event
        → Led p s g (state c (control.Eval e) (given ls) m w) u (state c (control.Eval (added_expression ts first e)) (made ts first ls) n w)
    unfolding act counted_line
    read_led e ls w h z passed stands u event goes =
        let r = h.read in
        let is = read_is p c.function h.side r h.place (subst (IsExpressionOf p c.function) h.is stands.focus.0) in
        let again = arrived_again o w in
        subst (λ e. (step s (state c (control.Eval e) (given ls) m w) ≡ Went u event) → Led p s g (state c (control.Eval e) (given ls) m w) u (state c (control.Eval (added_expression ts first e)) (made ts first ls) n w)) (sym h.is)
        (λ goes. went_to _ (step s (state c (control.Eval (read_at h.side r)) (given ls) m w)) u event goes
        (still p rows fs mk o sound c small ls z m n agree (control.Eval (read_at h.side r)) (given ls) (state c (control.Eval (added_expression ts first (read_at h.side r))) (made ts first ls) n w) (Finding h.side r) w (arrived o w) w refl passed
        (ap (λ e. state c (control.Eval e) (made ts first ls) n w) (call_is h.side r h.place h.lone))
        (record { read = is; still = refl; quiet = record { again = again; quiet = passed } }) refl refl))
        goes

    -- ---- at the same place
    eval_led : (e : Expression) (ls : List Link) (w : World Byte) → AreLinks p ls → Passed s (arrived o w) → Stands p (state c (control.Eval e) (given ls) m w) → (u : State) (event : Option (Happening Byte)) → step s (state c (control.Eval e) (given ls) m w) ≡ Went u event
        → Led p s g (state c (control.Eval e) (given ls) m w) u (state c (control.Eval (added_expression ts first e)) (made ts first ls) n w)
    eval_led e ls w z passed stands u event goes =
        ⊎_elim (λ stays. common_led (control.Eval e) ls w stays z passed stands u event goes) (λ h. read_led e ls w h z passed stands u event goes) (reads p e)

    waits_for : (side : Side) (r : TableRead) (v : Datum) (k : List Pending) → FocusStands p c (control.Holds v) (sum_frames side r (index_got side r) k) → (ty : Ty) × (ty ≡ type_of r.index) × HasType p ty v
    waits_for Left r v k f = f
    waits_for Right r v k f = f

    holds_led : (v : Datum) (ls : List Link) (w : World Byte) → AreLinks p ls → Passed s (arrived o w) → Stands p (state c (control.Holds v) (given ls) m w) → (u : State) (event : Option (Happening Byte)) → step s (state c (control.Holds v) (given ls) m w) ≡ Went u event
        → Led p s g (state c (control.Holds v) (given ls) m w) u (state c (control.Holds v) (made ts first ls) n w)
    unfolding given AreLinks
    holds_led v (Index side r ∷ ls) w z passed stands u event goes =
        let f = waits_for side r v (given ls) stands.focus in
        went_to _ _ u event goes (index_value p rows fs mk o sound c small ls z.1 m n agree w (arrived o w) refl (arrived_again o w) passed side r v z.0.0 f.0 f.1 f.2)
    holds_led v (Converted side r e ty at ∷ ls) w z passed stands u event goes =
        let f = stands.focus in
        went_to _ _ u event goes (converted_value p rows fs mk o sound c small ls z.1 m n agree w (arrived o w) refl (arrived_again o w) passed side r e ty at v z.0.0 z.0.1 (subst (λ t. HasType p t v) f.1 f.2))
    holds_led v (Plain x ∷ ls) w z passed stands u event goes = common_led (control.Holds v) (Plain x ∷ ls) w tt z passed stands u event goes
    holds_led v [] w z passed stands u event goes = common_led (control.Holds v) [] w tt z passed stands u event goes

    passed_led : (x : Focus) (ls : List Link) (w : World Byte) → AreLinks p ls → Passed s (arrived o w) → Stands p (state c x (given ls) m w) → (u : State) (event : Option (Happening Byte)) → step s (state c x (given ls) m w) ≡ Went u event
        → Led p s g (state c x (given ls) m w) u (state c (added_focus ts first x) (made ts first ls) n w)
    passed_led (control.Eval e) ls w z passed stands u event goes = eval_led e ls w z passed stands u event goes
    passed_led (control.Holds v) ls w z passed stands u event goes = holds_led v ls w z passed stands u event goes
    passed_led x ls w z passed stands u event goes = common_led x ls w tt z passed stands u event goes

    common_by : (b : Bool) (h : Option ℕ) (x : Focus) (ls : List Link) (w : World Byte) → is_due (arrived o w) ≡ b → handler_in p ≡ h → AreLinks p ls → Stands p (state c x (given ls) m w) → (u : State) (event : Option (Happening Byte)) → step s (state c x (given ls) m w) ≡ Went u event
        → Led p s g (state c x (given ls) m w) u (state c (added_focus ts first x) (made ts first ls) n w)
    common_by true (Some h) x ls w due is z stands u event goes = enters_led h x ls w z due is u event goes
    common_by true None x ls w due is z stands u event goes = passed_led x ls w z (ap (λ d. d && is_some_line (handler_in p)) due ∙ ap is_some_line is) stands u event goes
    common_by false h x ls w due is z stands u event goes = passed_led x ls w z (ap (λ d. d && is_some_line (handler_in p)) due) stands u event goes

    -- ---- anywhere
    constant_table : (r : TableRead) (h : IsTableRead p r) (t : StaticTree) → slice_get p.statics r.object ≡ Some t → t.ty.constant ≡ true
    constant_table r h t there = ap (λ (t : StaticTree). t.ty.constant) (sym (ap or_table there) ∙ ap or_table h.there) ∙ (and_parts _ _ h.table).0
      where
        or_table : Option StaticTree → StaticTree
        or_table None = h.static
        or_table (Some x) = x

    place_led : (P : Place) (ls : List Link) (w y : World Byte) → AreLinks p ls → Holds p o P w y → Stands p (state c (focus_at P) (stack_at P (given ls)) m w) → (u : State) (event : Option (Happening Byte)) → step s (state c (focus_at P) (stack_at P (given ls)) m w) ≡ Went u event
        → Led p s g (state c (focus_at P) (stack_at P (given ls)) m w) u (made_at p P c (made ts first ls) n y)
    place_led (Common x) ls w y z h stands u event goes =
        subst (λ y. Led p s g (state c x (given ls) m w) u (state c (added_focus ts first x) (made ts first ls) n y)) (sym h) (common_by (is_due (arrived o w)) (handler_in p) x ls w refl refl z stands u event goes)
    place_led (Finding side r) ls w y z h stands u event goes = went_to _ _ u event goes (finding p rows fs mk o sound c small ls z m n agree side r w y h)
    place_led (Summing side r) ls w y z h stands u event goes = went_to _ _ u event goes (summing p rows fs mk o sound c small ls z m n agree side r w y h)
    place_led (Starting r) ls w y z h stands u event goes = went_to _ _ u event goes (starting p rows fs mk o sound c small ls z m n agree r w y h)
    place_led (Naming r) ls w y z h stands u event goes = went_to _ _ u event goes (naming p rows fs mk o sound c small ls z m n agree r w y h)
    place_led (Spotting r) ls w y z h stands u event goes = went_to _ _ u event goes (spotting p rows fs mk o sound c small ls z m n agree r w y h)
    place_led (Pointing r) ls w y z h stands u event goes = went_to _ _ u event goes (pointing p rows fs mk o sound c small ls z m n agree r w y h)
    place_led (Converting side r e ty at) ls w y z h stands u event goes = went_to _ _ u event goes (converting p rows fs mk o sound c small ls z m n agree side r e ty at w y h.0 h.1)
    place_led (Holding side r v a) ls w y z h stands u event goes = went_to _ _ u event goes (holding p rows fs mk o sound c small ls z m n agree side r v a w y h)
    place_led (StartingBehind r v a) ls w y z h stands u event goes = went_to _ _ u event goes (starting_behind p rows fs mk o sound c small ls z m n agree r v a w y h)
    place_led (NamingBehind r v a) ls w y z h stands u event goes = went_to _ _ u event goes (naming_behind p rows fs mk o sound c small ls z m n agree r v a w y h)
    place_led (SpottingBehind r v a) ls w y z h stands u event goes = went_to _ _ u event goes (spotting_behind p rows fs mk o sound c small ls z m n agree r v a w y h)
    place_led (PointingBehind r v a) ls w y z h stands u event goes = went_to _ _ u event goes (pointing_behind p rows fs mk o sound c small ls z m n agree r v a w y h)
    place_led (Summed side r t j) ls w y z h stands u event goes =
        subst (λ y. Led p s g (state c (focus_at (Summed side r t j)) (stack_at (Summed side r t j) (given ls)) m w) u (made_at p (Summed side r t j) c (made ts first ls) n y)) (sym h.same)
        (went_to _ _ u event goes (summed p rows fs mk o sound c small ls z m n agree side r t j w (subst (IsReading p o r t j w) h.same h)))
    place_led (Reached side r t j) ls w y z h stands u event goes =
        subst (λ y. Led p s g (state c (focus_at (Reached side r t j)) (stack_at (Reached side r t j) (given ls)) m w) u (made_at p (Reached side r t j) c (made ts first ls) n y)) (sym h.same)
        (went_to _ _ u event goes (reached p rows fs mk o sound c small ls z m n agree side r t j w (subst (IsReading p o r t j w) h.same h)))
    place_led (Fetching side r t j) ls w y z h stands u event goes =
        subst (λ y. Led p s g (state c (focus_at (Fetching side r t j)) (stack_at (Fetching side r t j) (given ls)) m w) u (made_at p (Fetching side r t j) c (made ts first ls) n y)) (sym h.same)
        (went_to _ _ u event goes (fetching_goes p rows fs mk o sound c small ls z m n agree side r t j w (subst (IsReading p o r t j w) h.same h) (constant_table r h.read t h.there)))
    place_led (Fetched side r j byte) ls w y z h stands u event goes =
        subst (λ y. Led p s g (state c (focus_at (Fetched side r j byte)) (stack_at (Fetched side r j byte) (given ls)) m w) u (made_at p (Fetched side r j byte) c (made ts first ls) n y)) (sym h.1)
        (went_to _ _ u event goes (fetched_goes p rows fs mk o sound c small ls z m n agree side r j byte w h.0 h.2))

  -- each micro-step that is taken is followed
  pub led : (t u v : State) (event : Option (Happening Byte)) → Stand p o t v → Stands p t → step s t ≡ Went u event → Led p s g t u v
  led t u v event d stands goes =
      let here : t ≡ state t.copy (focus_at d.place) (stack_at d.place (given d.links)) t.memory t.world = ap (λ x. state t.copy x t.stack t.memory t.world) d.focus ∙ ap (λ k. state t.copy (focus_at d.place) k t.memory t.world) d.stack in
      subst (λ v. Led p s g t u v) (sym d.is)
      (subst (λ x. Stands p x → step s x ≡ Went u event → Led p s g x u (made_at p d.place t.copy (made ts first d.links) d.memory d.world)) (sym here)
      (λ stands goes. place_led t.copy d.small t.memory d.memory d.agree d.place d.links t.world d.world d.proper d.holds stands u event goes)
      stands goes)
