-- The micro-steps of a read of a table: on the way to its index and back from it the outlined program stands still, the sum calls the
-- reader, `*` is what adds the index there, and the read of the byte is all the rest.
use Rattle.std.proofs.Common.{suc, ◌≡◌, ℕ, ◌+◌, ◌<◌, ◌≤◌, ◌⊎◌, inl, inr, Bool, true, false, ◌&&◌, if◌then◌else◌, List, [], ◌∷◌, length, Option, Some, None, is_some, refl, sym, ap, ◌∙◌, subst, ⊎_elim, arith}
use Rattle.std.proofs.lemmas.Bool.{cases_lt, false≢true}
use Rattle.std.proofs.lemmas.Option.{slice_get_past}
use Rattle.std.specs.Prelude.{slice_get, nat_lt}
use Rattle.c_ints.specs.Range.{cut}
use Rattle.c_ints.specs.declared.types.IntTy.{IntTy}
use Rattle.c_ints.specs.declared.types.IntTy.TheVariants as kind
use Rattle.c_ints.specs.declared.operators.BinOp.TheVariants as ops
use Rattle.c_typed.specs.Sameness.{same_type}
use Rattle.c_typed.specs.Trees as tree
use Rattle.c_typed.specs.Trees.{Expression, StaticTree, FunctionTree, Program}
use Rattle.c_typed.specs.Types.{type_of, type_bytes}
use Rattle.c_typed.specs.declared.types.Qualified.{Qualified}
use Rattle.c_typed.specs.declared.types.Ty.{Ty}
use Rattle.c_typed.specs.declared.types.Ty.TheVariants as types
use Rattle.pic_world.specs.World.{Outside, World, Happening, arrived, is_due}
use Rattle.rom_source.proofs.Acting.{type_added}
use Rattle.rom_source.proofs.Adding.{added_expression}
use Rattle.rom_source.proofs.Indices.{number, IsIndex, IfGives, left_sum, right_sum, Passes, Meets, meets_direct, meets_converted}
use Rattle.rom_source.proofs.Links.{Side, Left, Right, TableRead, place_of, read_at, pointer_at, index_got, sum_frames, Link, Index, Converted, given, added_focus, asking, made, with_parts, IsMade, IsTableRead, AreLinks, Agree}
use Rattle.rom_source.proofs.Reader.{passed, at_sum, agree_passed, ended, reader_sums, table_taken, at_call, in_body, call_step, call_none, call_counts, body_read}
use Rattle.rom_source.proofs.Standing.{Asked, Place, Common, Finding, Summing, Starting, Naming, Spotting, Pointing, Converting, Holding, StartingBehind, NamingBehind, SpottingBehind, PointingBehind, Summed, Reached, Fetching, Fetched, element_spot, focus_at, stack_at, own_sum, own_place, own_read, reader_copy, the_call, returning, is_unsigned, asked, made_at, IsFree, IsBefore, IsBehind, IsReading, Holds, Walk, Stop, Led, Walks, AtCall, AtConvert, Hands, Converts, Adds, Way, Calls, Sums, Enters}
use Rattle.rom_source.proofs.Stepping.{IfWent, Passed, went, went_free, counts_is, then_free, then_quiet, free_step, enters_none, free_passes}
use Rattle.rom_tables.specs.Outlined.{unsigned_int, to_unsigned, index_argument, read_of}
use Rattle.rom_tables.specs.Tables.{tables_of, place_in}
use Rattle.src_rules.proofs.Sizes.{small}
use Rattle.src_rules.specs.Accesses.{goes, after_taking, fetching, fetched}
use Rattle.src_rules.specs.Giving.{answered}
use Rattle.src_rules.specs.Laws.{IsProper}
use Rattle.src_rules.specs.Runs.{one_if}
use Rattle.src_rules.specs.Standing.{HasType}
use Rattle.src_rules.specs.State.{State, state, Went}
use Rattle.src_rules.specs.Step.{is_some_line, act, step, counts, enters}
use Rattle.src_values.specs.Accesses.{Taking, Takes, Breaks, take_byte}
use Rattle.src_values.specs.Control as control
use Rattle.src_values.specs.Control.{Focus, Got, Nothing, One, At, Args, Pending, In, To, active, line_at}
use Rattle.src_values.specs.Counting.{counted_line, counted_if}
use Rattle.src_values.specs.Data as datum
use Rattle.src_values.specs.Data.{Datum}
use Rattle.src_values.specs.Memory.{Setting, Memory}
use Rattle.src_values.specs.Objects.{handler_in, object_bytes}
use Rattle.src_values.specs.Values.{Answer, Gives, Fails, Strays, value_from, converted, offset_answer, fits_behind}
use Rattle.src_values.specs.declared.objects.Byte.{Byte}
use Rattle.src_values.specs.declared.objects.CopyOf.{CopyOf}
use Rattle.src_values.specs.declared.objects.Object.TheVariants.{Fixed}

-- ---- the argument of a call
abbrev IsNoConvert : Expression → Type 0
IsNoConvert (tree.Convert e ty line) = ⊥
IsNoConvert _ = Unit {0}

module _ (ts : List ℕ) (first : ℕ) where
  read_argument : (a b : Option ℕ) (place : tree.Place) (ty : Ty) (at line : ℕ) → index_argument (read_of first a b place ty at) line ≡ to_unsigned (read_of first a b place ty at) line
  read_argument (Some t) b place ty at line = refl
  read_argument None (Some t) place ty at line = refl
  read_argument None None place ty at line = refl

  plain_argument : (e : Expression) (line : ℕ) → IsNoConvert e → index_argument (added_expression ts first e) line ≡ to_unsigned (added_expression ts first e) line
  unfolding added_expression
  plain_argument (tree.Read place ty at) line d = read_argument _ _ _ ty at line
  plain_argument (tree.Convert e ty at) line d = absurd d
  plain_argument e line d = refl

module _ (p : Program) (rows : List Qualified) (fs : List FunctionTree) (mk : IsMade p rows fs) (o : Outside) (sound : IsProper p) where
  abbrev q : Program
  q = with_parts p rows fs

  abbrev ts : List ℕ
  ts = tables_of p

  abbrev first : ℕ
  first = length p.functions

  abbrev s : Setting
  s = record { program = p; outside = o }

  abbrev g : Setting
  g = record { program = q; outside = o }

  pub made_passed : (w : World Byte) → Passed s w → Passed g w
  made_passed w e = ap (λ h. is_due w && is_some_line h) mk.handler ∙ e

  module _ (c : CopyOf) (small_copy : c.function < length p.functions) (ls : List Link) (z : AreLinks p ls) (m n : Memory) (agree : Agree p m n) where
    abbrev k : List Pending
    k = given ls

    abbrev l : List Pending
    l = made ts first ls

    abbrev pub at : Place → World Byte → State
    at P w = state c (focus_at P) (stack_at P k) m w

    abbrev pub to : Place → World Byte → State
    to P v = made_at p P c l n v

    -- what is shown of a micro-step
    abbrev pub LedFrom : State → State → State → Option (Happening Byte) → Type 0
    LedFrom t v u event = Led p s g t u v

    -- the outlined program stands still
    still_led : (t v : State) (N : Place) (w x : World Byte) → v ≡ to N x → Holds p o N w x → counts s t ≡ false → Led p s g t (at N w) v
    still_led t v N w x is h e = record {
      place = v;
      count = 0;
      counted = 0;
      way = Walks _ _ _ _ (Stop v);
      few = omega arith;
      some = λ f. absurd (false≢true (sym e ∙ f));
      none = λ f. refl;
      stands = record { place = N; links = ls; memory = n; world = x; focus = refl; stack = refl; is = is; small = small_copy; agree = agree; proper = z; holds = h };
    }

    pub still : (x : Focus) (j : List Pending) (v : State) (N : Place) (w0 w y : World Byte) → arrived o w0 ≡ w → Passed s w → v ≡ to N y → Holds p o N w y → is_some_line (counted_line p c x j) ≡ false
        → act s x j c m w ≡ Went (at N w) None → IfWent (LedFrom (state c x j m w0) v) (step s (state c x j m w0))
    still x j v N w0 w y is e same h none a =
        went s (LedFrom (state c x j m w0) v) c x j m w0 w is e
        (subst (IfWent (LedFrom (state c x j m w0) v)) (sym a) (still_led (state c x j m w0) v N w y same h (counts_is s c x j m w0 w is e ∙ none)))

    -- at a pause
    paused : (P N : Place) (r : TableRead) (w y : World Byte) → IsBefore p o r w y → to P y ≡ to N y → Holds p o N w y → is_some_line (counted_line p c (focus_at P) (stack_at P k)) ≡ false
        → act s (focus_at P) (stack_at P k) c m w ≡ Went (at N w) None → IfWent (LedFrom (at P w) (to P y)) (step s (at P w))
    paused P N r w y b same h none a = still (focus_at P) (stack_at P k) (to P y) N w w y b.quiet.again b.quiet.quiet same h none a

    -- ---- the call begins
    record Asks (r : TableRead) (a : Asked) (v w : World Byte) : Type 0 where
      count : ℕ
      few : count ≤ 2
      walk : Walk p g count 0 (state c (control.Eval (the_call p r)) l n v) (state c (control.Eval a.argument) (asked p r a l) n w)

    asks : (r : TableRead) (a : Asked) (v w : World Byte) → arrived o v ≡ w → arrived o w ≡ w → Passed s w → index_argument (added_expression ts first r.index) r.line ≡ to_unsigned a.argument a.line → Asks r a v w
    unfolding act counted_line
    asks r a v w is again e same = by (is_unsigned p a.argument) refl
      where
        C : Expression
        C = the_call p r

        target : Bool → State
        target b = state c (control.Eval a.argument) (asking ts first b a.argument a.line (the_call p r) l) n w

        argument : (b : Bool) → is_unsigned p a.argument ≡ b → index_argument (added_expression ts first r.index) r.line ≡ (if b then a.argument else tree.Convert a.argument unsigned_int a.line)
        argument b f = same ∙ ap (λ b. if b then a.argument else tree.Convert a.argument unsigned_int a.line) f

        by : (b : Bool) → is_unsigned p a.argument ≡ b → Asks r a v w
        by true f = record {
          count = 1;
          few = omega arith;
          walk = subst (λ b. Walk p g 1 0 (state c (control.Eval (the_call p r)) l n v) (target b)) (sym f)
              (then_quiet g c (control.Eval (the_call p r)) l n v w is p (AtCall r l) 0 0 (target true) (target true) None (made_passed w e) refl
              (ap (λ x. Went (state c (control.Eval x) (In (the_call p r) (Args [] tree.NoExpression) ∷ l) n w) None) (argument true f)) (Stop (target true)));
        }
        by false f = record {
          count = 2;
          few = omega arith;
          walk = subst (λ b. Walk p g 2 0 (state c (control.Eval (the_call p r)) l n v) (target b)) (sym f)
              (then_quiet g c (control.Eval (the_call p r)) l n v w is p (AtCall r l) 1 0 (state c (control.Eval (tree.Convert a.argument unsigned_int a.line)) (In (the_call p r) (Args [] tree.NoExpression) ∷ l) n w) (target false) None (made_passed w e) refl
              (ap (λ x. Went (state c (control.Eval x) (In (the_call p r) (Args [] tree.NoExpression) ∷ l) n w) None) (argument false f))
              (then_quiet g c (control.Eval (tree.Convert a.argument unsigned_int a.line)) (In (the_call p r) (Args [] tree.NoExpression) ∷ l) n w w again p (AtConvert a.argument a.line (In (the_call p r) (Args [] tree.NoExpression) ∷ l)) 0 0 (target false) (target false) None (made_passed w e) refl refl (Stop (target false))));
        }

    -- the index is about to be evaluated, or the operand of its conversion
    asked_led : (t : State) (r : TableRead) (a : Asked) (link : Link) (j : List Pending) (x : Focus) (w y : World Byte) → IsBefore p o r w y → index_argument (added_expression ts first r.index) r.line ≡ to_unsigned a.argument a.line
        → given (link ∷ ls) ≡ j → made ts first (link ∷ ls) ≡ asked p r a l → added_focus ts first x ≡ control.Eval a.argument → AreLinks p (link ∷ ls) → counts s t ≡ false
        → Led p s g t (state c x j m w) (state c (control.Eval (the_call p r)) l n y)
    asked_led t r a link j x w y b same f e h links none =
        let d = asks r a y w b.still b.quiet.again b.quiet.quiet same in
        let few = d.few in
        record {
          place = state c (control.Eval a.argument) (asked p r a l) n w;
          count = d.count;
          counted = 0;
          way = Walks _ _ _ _ d.walk;
          few = omega arith;
          some = λ i. absurd (false≢true (sym none ∙ i));
          none = λ i. refl;
          stands = record { place = Common x; links = link ∷ ls; memory = n; world = w; focus = refl; stack = sym f; is = ap (λ y. state c y (asked p r a l) n w) (sym h) ∙ ap (λ y. state c (added_focus ts first x) y n w) (sym e); small = small_copy; agree = agree; proper = links; holds = refl };
        }

    pub index_led : (t : State) (side : Side) (r : TableRead) (w y : World Byte) (e : Expression) → r.index ≡ e → IsBefore p o r w y → counts s t ≡ false
        → Led p s g t (state c (control.Eval r.index) (sum_frames side r (index_got side r) k) m w) (state c (control.Eval (the_call p r)) l n y)
    unfolding given made AreLinks
    index_led t side r w y (tree.Convert e ty line) is b none =
        subst (λ x. Led p s g t (state c (control.Eval x) (sum_frames side r (index_got side r) k) m w) (state c (control.Eval (the_call p r)) l n y)) (sym is)
        (still_led t (state c (control.Eval (the_call p r)) l n y) (Converting side r e ty line) w y refl (b, is) none)
    index_led t side r w y e is b none =
        let same = subst (λ e. index_argument (added_expression ts first e) r.line ≡ to_unsigned (added_expression ts first e) r.line) (sym is) (plain_argument ts first e r.line tt) in
        asked_led t r (record { argument = added_expression ts first r.index; line = r.line; value = datum.Missing }) (Index side r) (sum_frames side r (index_got side r) k) (control.Eval r.index) w y b same refl refl refl ((b.read, same), z) none

    -- what leads into the index
    to_index : (P : Place) (side : Side) (r : TableRead) (w y : World Byte) → IsBefore p o r w y → to P y ≡ state c (control.Eval (the_call p r)) l n y → is_some_line (counted_line p c (focus_at P) (stack_at P k)) ≡ false
        → act s (focus_at P) (stack_at P k) c m w ≡ Went (state c (control.Eval r.index) (sum_frames side r (index_got side r) k) m w) None → IfWent (LedFrom (at P w) (to P y)) (step s (at P w))
    to_index P side r w y b same none a =
        went s (LedFrom (at P w) (to P y)) c (focus_at P) (stack_at P k) m w w b.quiet.again b.quiet.quiet
        (subst (IfWent (LedFrom (at P w) (to P y))) (sym a)
        (subst (λ v. Led p s g (at P w) (state c (control.Eval r.index) (sum_frames side r (index_got side r) k) m w) v) (sym same)
        (index_led (at P w) side r w y r.index refl b (counts_is s c (focus_at P) (stack_at P k) m w w b.quiet.again b.quiet.quiet ∙ none))))

    -- the operand of the index's conversion
    pub converting : (side : Side) (r : TableRead) (e : Expression) (ty : Ty) (line : ℕ) (w y : World Byte) → IsBefore p o r w y → r.index ≡ tree.Convert e ty line
        → IfWent (LedFrom (at (Converting side r e ty line) w) (to (Converting side r e ty line) y)) (step s (at (Converting side r e ty line) w))
    unfolding act counted_line given made AreLinks added_expression
    converting side r e ty line w y b is =
        let P : Place = Converting side r e ty line in
        let same = ap (λ x. index_argument (added_expression ts first x) r.line) is in
        went s (LedFrom (at P w) (to P y)) c (focus_at P) (stack_at P k) m w w b.quiet.again b.quiet.quiet
        (asked_led (at P w) r (record { argument = added_expression ts first e; line = line; value = datum.Missing }) (Converted side r e ty line) (In (tree.Convert e ty line) Nothing ∷ sum_frames side r (index_got side r) k) (control.Eval e) w y b same refl refl refl ((b.read, is), z)
        (counts_is s c (focus_at P) (stack_at P k) m w w b.quiet.again b.quiet.quiet))

    -- ---- on the way to the index
    abbrev pub before_goes : (P : Place) (w y : World Byte) → Type 0
    before_goes P w y = IfWent (LedFrom (at P w) (to P y)) (step s (at P w))

    pub finding : (side : Side) (r : TableRead) (w y : World Byte) → IsBefore p o r w y → before_goes (Finding side r) w y
    unfolding act counted_line
    finding side r w y b = paused (Finding side r) (Summing side r) r w y b refl b refl refl

    pub summing : (side : Side) (r : TableRead) (w y : World Byte) → IsBefore p o r w y → before_goes (Summing side r) w y
    unfolding act counted_line
    summing Left r w y b = paused (Summing Left r) (Starting r) r w y b refl b refl refl
    summing Right r w y b = to_index (Summing Right r) Right r w y b refl refl refl

    pub starting : (r : TableRead) (w y : World Byte) → IsBefore p o r w y → before_goes (Starting r) w y
    unfolding act counted_line
    starting r w y b = paused (Starting r) (Naming r) r w y b refl b refl refl

    pub naming : (r : TableRead) (w y : World Byte) → IsBefore p o r w y → before_goes (Naming r) w y
    unfolding act counted_line
    naming r w y b = paused (Naming r) (Spotting r) r w y b refl b refl refl

    pub spotting : (r : TableRead) (w y : World Byte) → IsBefore p o r w y → before_goes (Spotting r) w y
    unfolding act counted_line
    spotting r w y b = paused (Spotting r) (Pointing r) r w y b refl b (ap (λ x. is_some_line (counted_if x r.start_line)) b.read.plain) refl

    pub pointing : (r : TableRead) (w y : World Byte) → IsBefore p o r w y → before_goes (Pointing r) w y
    unfolding act counted_line
    pointing r w y b = to_index (Pointing r) Left r w y b refl refl refl

    -- ---- the sum
    within : (xs : List StaticTree) (i : ℕ) (t : StaticTree) → slice_get xs i ≡ Some t → i < length xs
    within xs i t e = ⊎_elim (λ h. h) (λ h. absurd (false≢true (ap is_some (sym (slice_get_past xs i h) ∙ e)))) (cases_lt i (length xs))

    small_index : (r : TableRead) (h : IsTableRead p r) (j : ℕ) → j ≤ object_bytes p (Fixed r.object) → j < 65536
    small_index r h j near = let e = small p sound (Fixed r.object) (within p.statics r.object h.static h.there) in omega arith

    record Called (r : TableRead) (t : StaticTree) (a : Asked) (j : ℕ) (v w : World Byte) : Type 0 where
      memory : Memory
      count : ℕ
      few : count ≤ 18
      counted : ℕ
      four : counted ≡ 4
      way : Way p g count counted (state c (control.Holds a.value) (asked p r a l) n v) (made_at p (Summed Left r t j) c l memory w)
      agrees : Agree p m memory

    calls_reader : (r : TableRead) (h : IsTableRead p r) (a : Asked) (j : ℕ) (v w : World Byte) → arrived o v ≡ w → arrived o w ≡ w → is_due w ≡ false → j ≤ object_bytes p (Fixed r.object) → Passes (is_unsigned p a.argument) a.value j → Called r h.static a j v w
    unfolding act counted_line converted
    calls_reader r h a j v w is again free near passes = by (is_unsigned p a.argument) refl passes
      where
        lt : j < 65536
        lt = small_index r h j near

        new : Memory
        new = passed p rows fs mk o r h.static h.place h.there c l n w again free j lt

        from : Bool → Datum → State
        from b u = state c (control.Holds u) (asking ts first b a.argument a.line (the_call p r) l) n v

        target : State
        target = at_sum p rows fs mk o r h.static h.place h.there c l n w again free j lt

        call : State
        call = at_call p rows fs mk o r h.static h.place h.there c l n w again free j lt

        passing : (x : World Byte) → arrived o x ≡ w → Walk p g 1 0 (state c (control.Holds (number kind.UInt j)) (In (the_call p r) (Args [] tree.NoExpression) ∷ l) n x) call
        passing x e = then_free g c (control.Holds (number kind.UInt j)) (In (the_call p r) (Args [] tree.NoExpression) ∷ l) n x w e p (Hands (number kind.UInt j) r l) 0 0 false call call None free refl refl (Stop call)

        done : (count : ℕ) (b : Bool) → is_unsigned p a.argument ≡ b → count ≤ 2 → Walk p g count 0 (from b a.value) call → Called r h.static a j v w
        done count b f few walk = record {
          memory = new;
          count = count + suc 15;
          few = omega arith;
          counted = one_if (counts g call) + 3;
          four = ap (λ b. one_if b + 3) (call_counts p rows fs mk o r h.static h.place h.there c l n w again free j lt);
          way = subst (λ b. Way p g (count + suc 15) (one_if (counts g call) + 3) (from b a.value) target) (sym f)
              (Calls count 15 3 (from b a.value) call (in_body p rows fs mk o r h.static h.place h.there c l n w again free j lt) target None walk
              (Enters (number kind.UInt j ∷ []) r l) r h refl (call_none p rows fs mk o r h.static h.place h.there c l n w again free j lt)
              (call_step p rows fs mk o r h.static h.place h.there c l n w again free j lt) (body_read p rows fs mk o r h.static h.place h.there c l n w again free j lt));
          agrees = agree_passed p rows fs mk o r h.static h.place h.there c l n w again free j lt m agree;
        }

        by : (b : Bool) → is_unsigned p a.argument ≡ b → Passes b a.value j → Called r h.static a j v w
        by true f e = done 1 true f (omega arith) (subst (λ u. Walk p g 1 0 (from true u) call) (sym e) (passing v is))
        by false f e =
            done 2 false f (omega arith)
            (subst (λ u. Walk p g 2 0 (from false u) call) (sym e.1)
            (then_free g c (control.Holds (datum.Number e.0)) (In (tree.Convert a.argument unsigned_int a.line) Nothing ∷ In (the_call p r) (Args [] tree.NoExpression) ∷ l) n v w is p (Converts (datum.Number e.0) a.argument a.line (In (the_call p r) (Args [] tree.NoExpression) ∷ l)) 1 0 false
            (state c (control.Holds (number kind.UInt j)) (In (the_call p r) (Args [] tree.NoExpression) ∷ l) n w) call None free refl
            (ap (λ x. Went (state c (control.Holds (datum.Number (record { ty = kind.UInt; number = x }))) (In (the_call p r) (Args [] tree.NoExpression) ∷ l) n w) None) e.2)
            (passing w again)))

    sums : (side : Side) (r : TableRead) (h : IsTableRead p r) (a : Asked) (u : Datum) (x : Focus) (j : List Pending) (ans : Answer) (line : ℕ) (w0 w v : World Byte) → IfGives (IsIndex p r.object u) ans → Meets (is_unsigned p a.argument) a.value u
        → arrived o w0 ≡ w → arrived o v ≡ w → arrived o w ≡ w → Passed s w → is_some_line (counted_line p c x j) ≡ true → act s x j c m w ≡ answered ans line (To (place_of side r) ∷ In (read_at side r) Nothing ∷ k) c m w
        → IfWent (LedFrom (state c x j m w0) (state c (control.Holds a.value) (asked p r a l) n v)) (step s (state c x j m w0))
    sums side r h a u x j ans line w0 w v gives meets is still again e counted goes =
        went_free s P c x j m w0 w is e counted (λ free. subst (IfWent P) (sym goes) (by free ans gives))
      where
        P : State → Option (Happening Byte) → Type 0
        P = LedFrom (state c x j m w0) (state c (control.Holds a.value) (asked p r a l) n v)

        by : is_due w ≡ false → (ans : Answer) → IfGives (IsIndex p r.object u) ans → IfWent P (answered ans line (To (place_of side r) ∷ In (read_at side r) Nothing ∷ k) c m w)
        by free (Fails kind) i = tt
        by free Strays i = tt
        by free (Gives y) i =
            let d = calls_reader r h a i.at v w still again free i.near (meets i.at i.ty (small_index r h i.at i.near) i.value) in
            let few = d.few in
            let four = d.four in
            record {
              place = made_at p (Summed side r h.static i.at) c l d.memory w;
              count = d.count;
              counted = d.counted;
              way = d.way;
              few = omega arith;
              some = λ f. (omega arith, omega arith);
              none = λ f. absurd (false≢true (sym f ∙ (counts_is s c x j m w0 w is e ∙ counted)));
              stands = record { place = Summed side r h.static i.at; links = ls; memory = d.memory; world = w; focus = ap control.Holds i.leads; stack = refl; is = refl; small = small_copy; agree = d.agrees; proper = z; holds = record { read = h; there = h.there; near = i.near; same = refl; free = record { again = again; free = free } } };
            }

    -- ---- the value of an index
    module _ (w0 w : World Byte) (is : arrived o w0 ≡ w) (again : arrived o w ≡ w) (e : Passed s w) where
      before_now : (r : TableRead) → IsTableRead p r → (v : World Byte) → arrived o v ≡ w → IsBefore p o r w v
      before_now r h v f = record { read = h; still = f; quiet = record { again = again; quiet = e } }

      direct : (r : TableRead) (ty : Ty) (v : Datum) → ty ≡ type_of r.index → HasType p ty v → Meets (is_unsigned p (added_expression ts first r.index)) v v
      direct r ty v same typed =
          meets_direct p (is_unsigned p (added_expression ts first r.index)) (type_of r.index) v (ap (λ t. same_type t unsigned_int) (sym (type_added ts first r.index))) (subst (λ t. HasType p t v) same typed)

      left_gives : (r : TableRead) → IsTableRead p r → (v : Datum) → IfGives (IsIndex p r.object v) (offset_answer p ops.Add r.size (pointer_at r 0) v)
      left_gives r h v = subst (λ size. IfGives (IsIndex p r.object v) (offset_answer p ops.Add size (pointer_at r 0) v)) (sym h.size) (left_sum p r.object v)

      right_gives : (r : TableRead) → IsTableRead p r → (v : Datum) → IfGives (IsIndex p r.object v) (offset_answer p ops.Add r.size v (pointer_at r 0))
      right_gives r h v = subst (λ size. IfGives (IsIndex p r.object v) (offset_answer p ops.Add size v (pointer_at r 0))) (sym h.size) (right_sum p r.object v)

      -- it goes to the sum
      sum_at : (side : Side) (r : TableRead) (a : Asked) (v : Datum) (y : World Byte) → IsTableRead p r → arrived o y ≡ w → Meets (is_unsigned p a.argument) a.value v
          → IfWent (LedFrom (state c (control.Holds v) (sum_frames side r (index_got side r) k) m w0) (state c (control.Holds a.value) (asked p r a l) n y)) (step s (state c (control.Holds v) (sum_frames side r (index_got side r) k) m w0))
      unfolding act counted_line
      sum_at Left r a v y h still meets =
          sums Left r h a v (control.Holds v) (sum_frames Left r (index_got Left r) k) (offset_answer p ops.Add r.size (pointer_at r 0) v) r.sum_line w0 w y (left_gives r h v) meets is still again e refl refl
      sum_at Right r a v y h still meets =
          went s P c (control.Holds v) (sum_frames Right r Nothing k) m w0 w is e
          (still_led (state c (control.Holds v) (sum_frames Right r Nothing k) m w0) (state c (control.Holds a.value) (asked p r a l) n y) (StartingBehind r v a) w y refl (record { before = before_now r h y still; meets = meets })
          (counts_is s c (control.Holds v) (sum_frames Right r Nothing k) m w0 w is e))
        where
          P : State → Option (Happening Byte) → Type 0
          P = LedFrom (state c (control.Holds v) (sum_frames Right r Nothing k) m w0) (state c (control.Holds a.value) (asked p r a l) n y)

      pub index_value : (side : Side) (r : TableRead) (v : Datum) → IsTableRead p r → (ty : Ty) → ty ≡ type_of r.index → HasType p ty v
          → IfWent (LedFrom (state c (control.Holds v) (given (Index side r ∷ ls)) m w0) (state c (control.Holds v) (made ts first (Index side r ∷ ls)) n w0)) (step s (state c (control.Holds v) (given (Index side r ∷ ls)) m w0))
      unfolding given made
      index_value side r v h ty same typed = sum_at side r (record { argument = added_expression ts first r.index; line = r.line; value = v }) v w0 h is (direct r ty v same typed)

      -- it is converted first
      int_index : (r : TableRead) → IsTableRead p r → (ty : Ty) → type_of r.index ≡ ty → (t : IntTy) × (ty ≡ types.Int t) × ((t ≡ kind.Int) ⊎ (t ≡ kind.UInt))
      int_index r h ty f = ⊎_elim (λ i. (kind.Int, sym f ∙ i, inl refl)) (λ i. (kind.UInt, sym f ∙ i, inr refl)) h.index

      pub converted_value : (side : Side) (r : TableRead) (x : Expression) (ty : Ty) (line : ℕ) (v : Datum) → IsTableRead p r → r.index ≡ tree.Convert x ty line → HasType p (type_of x) v
          → IfWent (LedFrom (state c (control.Holds v) (given (Converted side r x ty line ∷ ls)) m w0) (state c (control.Holds v) (made ts first (Converted side r x ty line ∷ ls)) n w0)) (step s (state c (control.Holds v) (given (Converted side r x ty line ∷ ls)) m w0))
      unfolding given made act counted_line converted
      converted_value side r x ty line v h same typed =
          went s P c (control.Holds v) (In (tree.Convert x ty line) Nothing ∷ j) m w0 w is e (subst (λ ty. IfWent P (answered (converted ty v) line j c m w)) (sym i.1) (by v typed))
        where
          j : List Pending
          j = sum_frames side r (index_got side r) k

          i : (t : IntTy) × (ty ≡ types.Int t) × ((t ≡ kind.Int) ⊎ (t ≡ kind.UInt))
          i = int_index r h ty (ap type_of same)

          t0 : State
          t0 = state c (control.Holds v) (In (tree.Convert x ty line) Nothing ∷ j) m w0

          P : State → Option (Happening Byte) → Type 0
          P = LedFrom t0 (state c (control.Holds v) (asking ts first (is_unsigned p (added_expression ts first x)) (added_expression ts first x) line (the_call p r) l) n w0)

          by : (u : Datum) → HasType p (type_of x) u → IfWent (LedFrom t0 (state c (control.Holds u) (asking ts first (is_unsigned p (added_expression ts first x)) (added_expression ts first x) line (the_call p r) l) n w0)) (answered (converted (types.Int i.0) u) line j c m w)
          by (datum.Number q) f =
              still_led t0 (state c (control.Holds (datum.Number q)) (asking ts first (is_unsigned p (added_expression ts first x)) (added_expression ts first x) line (the_call p r) l) n w0)
              (Holding side r (datum.Number (record { ty = i.0; number = cut i.0 q.number })) (record { argument = added_expression ts first x; line = line; value = datum.Number q })) w w0 refl
              (record { before = before_now r h w0 is; meets = meets_converted p (is_unsigned p (added_expression ts first x)) (type_of x) i.0 q i.2 (ap (λ t. same_type t unsigned_int) (sym (type_added ts first x))) f })
              (counts_is s c (control.Holds v) (In (tree.Convert x ty line) Nothing ∷ j) m w0 w is e)
          by (datum.Pointer y) f = tt
          by datum.Missing f = tt

    -- ---- behind the index
    behind_goes : (r : TableRead) (v : Datum) (a : Asked) (P N : Place) (w y : World Byte) → IsBehind p o r v a w y → to P y ≡ to N y → Holds p o N w y → is_some_line (counted_line p c (focus_at P) (stack_at P k)) ≡ false
        → act s (focus_at P) (stack_at P k) c m w ≡ Went (at N w) None → before_goes P w y
    behind_goes r v a P N w y b same h none goes = paused P N r w y b.before same h none goes

    pub holding : (side : Side) (r : TableRead) (v : Datum) (a : Asked) (w y : World Byte) → IsBehind p o r v a w y → before_goes (Holding side r v a) w y
    holding side r v a w y b = sum_at w w b.before.quiet.again b.before.quiet.again b.before.quiet.quiet side r a v y b.before.read b.before.still b.meets

    pub starting_behind : (r : TableRead) (v : Datum) (a : Asked) (w y : World Byte) → IsBehind p o r v a w y → before_goes (StartingBehind r v a) w y
    unfolding act counted_line
    starting_behind r v a w y b = behind_goes r v a (StartingBehind r v a) (NamingBehind r v a) w y b refl b refl refl

    pub naming_behind : (r : TableRead) (v : Datum) (a : Asked) (w y : World Byte) → IsBehind p o r v a w y → before_goes (NamingBehind r v a) w y
    unfolding act counted_line
    naming_behind r v a w y b = behind_goes r v a (NamingBehind r v a) (SpottingBehind r v a) w y b refl b refl refl

    pub spotting_behind : (r : TableRead) (v : Datum) (a : Asked) (w y : World Byte) → IsBehind p o r v a w y → before_goes (SpottingBehind r v a) w y
    unfolding act counted_line
    spotting_behind r v a w y b = behind_goes r v a (SpottingBehind r v a) (PointingBehind r v a) w y b refl b (ap (λ x. is_some_line (counted_if x r.start_line)) b.before.read.plain) refl

    pub pointing_behind : (r : TableRead) (v : Datum) (a : Asked) (w y : World Byte) → IsBehind p o r v a w y → before_goes (PointingBehind r v a) w y
    unfolding act counted_line
    pointing_behind r v a w y b =
        let q = b.before.quiet in
        sums Right r b.before.read a v (control.Holds (pointer_at r 0)) (sum_frames Right r (One v) k) (offset_answer p ops.Add r.size v (pointer_at r 0)) r.sum_line w w y (right_gives w w q.again q.again q.quiet r b.before.read v) b.meets q.again b.before.still q.again q.quiet refl refl

    -- ---- in the reader
    reading_passed : (w : World Byte) → IsFree p o w → Passed s w
    reading_passed w f = ap (λ b. b && is_some_line (handler_in p)) f.free

    place_of_table : (r : TableRead) → IsTableRead p r → place_in r.object 0 ts ≡ Some r.table
    place_of_table r h = h.place

    pub summed : (side : Side) (r : TableRead) (t : StaticTree) (j : ℕ) (w : World Byte) → IsReading p o r t j w w → before_goes (Summed side r t j) w w
    unfolding act counted_line
    summed side r t j w h =
        went s (LedFrom (at P w) (to P w)) c (focus_at P) (stack_at P k) m w w h.free.again (reading_passed w h.free) (record {
          place = to N w;
          count = 1;
          counted = one_if (counts g (to P w));
          way = Sums (to P w) (to N w) None (Adds r t (number kind.UInt j) (pointer_at r 0) (To (own_place p r t) ∷ In (own_read p r t) Nothing ∷ returning p r t c l)) none
              (free_step g (reader_copy p r c) (control.Holds (number kind.UInt j)) waits n w w h.free.again (to N w) None h.free.free (reader_sums p rows fs mk o r t h.read h.read.place h.there c l n w h.free.again h.free.free j h.near));
          few = omega arith;
          some = λ f. let e = ap one_if own in (omega arith, omega arith);
          none = λ f. absurd (false≢true (sym f ∙ counts_is s c (focus_at P) (stack_at P k) m w w h.free.again (reading_passed w h.free)));
          stands = record { place = N; links = ls; memory = n; world = w; focus = refl; stack = refl; is = refl; small = small_copy; agree = agree; proper = z; holds = h };
        })
      where
        P : Place
        P = Summed side r t j

        N : Place
        N = Reached side r t j

        waits : List Pending
        waits = In (own_sum p r t) (One (pointer_at r 0)) ∷ To (own_place p r t) ∷ In (own_read p r t) Nothing ∷ returning p r t c l

        none : enters g (to (Summed side r t j) w) ≡ false
        none = enters_none g (reader_copy p r c) (control.Holds (number kind.UInt j)) waits n w w h.free.again (free_passes g (reader_copy p r c) (control.Holds (number kind.UInt j)) waits n w w h.free.again h.free.free)

        own : counts g (to (Summed side r t j) w) ≡ true
        own = counts_is g (reader_copy p r c) (control.Holds (number kind.UInt j)) waits n w w h.free.again (free_passes g (reader_copy p r c) (control.Holds (number kind.UInt j)) waits n w w h.free.again h.free.free)

    pub reached : (side : Side) (r : TableRead) (t : StaticTree) (j : ℕ) (w : World Byte) → IsReading p o r t j w w → before_goes (Reached side r t j) w w
    unfolding act counted_line
    reached side r t j w h =
        still (focus_at (Reached side r t j)) (stack_at (Reached side r t j) k) (to (Reached side r t j) w) (Fetching side r t j) w w w h.free.again (reading_passed w h.free) refl h refl
        (ap (λ ty. Went (state c (fetching (element_spot r j) ty p.sizes) (In (read_at side r) (At (element_spot r j)) ∷ k) m w) None) h.read.ty)

    -- how many bytes an element has
    one_byte : (r : TableRead) (h : IsTableRead p r) → type_bytes p.sizes r.ty ≡ 1
    one_byte r h = ap (type_bytes p.sizes) h.ty ∙ h.one

    pub fetching_goes : (side : Side) (r : TableRead) (t : StaticTree) (j : ℕ) (w : World Byte) → IsReading p o r t j w w → t.ty.constant ≡ true → before_goes (Fetching side r t j) w w
    unfolding act counted_line
    fetching_goes side r t j w h constant =
        went s (LedFrom (at P w) (to P w)) c (focus_at P) (stack_at P k) m w w h.free.again (reading_passed w h.free)
        (subst (λ b. IfWent (LedFrom (at P w) (to P w)) (if b then after_taking taking next c (stack_at P k) m r.line else fetched (value_from r.ty []) (stack_at P k) c m w)) (sym lt) (by taking refl))
      where
        P : Place
        P = Fetching side r t j

        lt : nat_lt 0 (type_bytes p.sizes r.ty) ≡ true
        lt = ap (nat_lt 0) (one_byte r h.read)

        next : Byte → Focus
        next byte = control.Fetch (element_spot r (j + 1)) (byte ∷ [])

        taking : Taking
        taking = take_byte s (active c (control.Fetch (element_spot r j) []) (stack_at (Fetching side r t j) k)) c.root (fits_behind r.ty []) (element_spot r j) m w

        counted : counts s (at (Fetching side r t j) w) ≡ true
        counted = counts_is s c (focus_at (Fetching side r t j)) (stack_at (Fetching side r t j) k) m w w h.free.again (reading_passed w h.free) ∙ ap (λ b. is_some_line (counted_if b r.line)) lt

        by : (y : Taking) → take_byte s (active c (control.Fetch (element_spot r j) []) (stack_at (Fetching side r t j) k)) c.root (fits_behind r.ty []) (element_spot r j) m w ≡ y
            → IfWent (LedFrom (at (Fetching side r t j) w) (to (Fetching side r t j) w)) (after_taking y next c (stack_at (Fetching side r t j) k) m r.line)
        by (Breaks why) f = tt
        by (Takes byte x event) f =
            let d = table_taken p rows fs mk o r t j _ [] c.root c.root (fits_behind r.ty []) m n w x byte event h.there constant agree f in
            record {
              place = to (Fetched side r j byte) w;
              count = 6;
              counted = 2;
              way = Walks _ _ _ _ (subst (λ v. Walk p g 6 2 (to (Fetching side r t j) w) (state c (control.Holds v) l n w)) (ap (λ ty. value_from ty (byte ∷ [])) (sym h.read.ty))
                  (ended p rows fs mk o r t h.read h.read.place h.there c l n w h.free.again h.free.free j byte
                  (λ live root. ap (λ ty. take_byte g live root (fits_behind ty []) (element_spot r j) n w) (sym h.read.ty) ∙ (table_taken p rows fs mk o r t j _ live c.root root (fits_behind r.ty []) m n w x byte event h.there constant agree f).0)));
              few = omega arith;
              some = λ f. (omega arith, omega arith);
              none = λ f. absurd (false≢true (sym f ∙ counted));
              stands = record { place = Fetched side r j byte; links = ls; memory = n; world = w; focus = refl; stack = refl; is = refl; small = small_copy; agree = agree; proper = z; holds = (h.read, sym d.1, subst (IsFree p o) (sym d.1) h.free) };
            }

    pub fetched_goes : (side : Side) (r : TableRead) (j : ℕ) (byte : Byte) (w : World Byte) → IsTableRead p r → IsFree p o w → before_goes (Fetched side r j byte) w w
    unfolding act counted_line
    fetched_goes side r j byte w h free =
        still (focus_at P) (stack_at P k) (to P w) (Common (control.Holds (value_from r.ty (byte ∷ [])))) w w w free.again (reading_passed w free) refl refl
        (ap (λ b. is_some_line (counted_if b r.line)) lt)
        (ap (λ b. if b then after_taking (take_byte s (active c (focus_at P) (stack_at P k)) c.root (fits_behind r.ty (byte ∷ [])) (element_spot r (j + 1)) m w) (λ next. control.Fetch (element_spot r (j + 1 + 1)) (byte ∷ next ∷ [])) c (stack_at P k) m r.line else Went (state c (control.Holds (value_from r.ty (byte ∷ []))) k m w) None) lt)
      where
        P : Place
        P = Fetched side r j byte

        lt : nat_lt 1 (type_bytes p.sizes r.ty) ≡ false
        lt = ap (nat_lt 1) (one_byte r h)
