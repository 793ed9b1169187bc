-- Where the given program rests, the outlined one does.
use Rattle.std.proofs.Common.{◌≡◌, ℕ, ◌+◌, ◌<◌, ◌⊎◌, inl, inr, Bool, true, false, ◌&&◌, if◌then◌else◌, List, [], ◌∷◌, ◌++◌, length, Option, Some, None, refl, sym, ap, ◌∙◌, subst, ⊎_elim}
use Rattle.std.proofs.lemmas.Bool.{false≢true}
use Rattle.std.specs.Prelude.{nat_lt}
use Rattle.c_typed.specs.Trees as tree
use Rattle.c_typed.specs.Trees.{Expression, FunctionTree, Program}
use Rattle.c_typed.specs.Types.{type_bytes}
use Rattle.c_typed.specs.declared.types.Qualified.{Qualified}
use Rattle.c_typed.specs.declared.types.Ty.{Ty}
use Rattle.pic_world.specs.World.{Outside, World, arrived, is_due}
use Rattle.rom_source.proofs.Acting.{IsCommon, act_same}
use Rattle.rom_source.proofs.Counting.{counts_same}
use Rattle.rom_source.proofs.Facts.{TableAt, reads}
use Rattle.rom_source.proofs.Links.{Side, Left, Right, TableRead, read_at, index_got, sum_frames, Link, Plain, Index, Converted, given, added_focus, made, with_parts, IsMade, AreLinks, Agree}
use Rattle.rom_source.proofs.Pausing.{made_passed}
use Rattle.rom_source.proofs.Same.{Same}
use Rattle.rom_source.proofs.Standing.{Place, Common, Finding, Summing, Starting, Naming, Spotting, Pointing, Converting, Holding, StartingBehind, NamingBehind, SpottingBehind, PointingBehind, Summed, Reached, Fetching, Fetched, element_spot, focus_at, stack_at, made_at, Holds, Stand}
use Rattle.rom_source.proofs.Stepping.{Passed, MayGo}
use Rattle.rom_tables.specs.Tables.{tables_of}
use Rattle.src_rules.specs.Accesses.{after_taking, fetched, fetch_as}
use Rattle.src_rules.specs.Giving.{answered}
use Rattle.src_rules.specs.Laws.{IsProper}
use Rattle.src_rules.specs.Standing.{Stands}
use Rattle.src_rules.specs.State.{State, state, Outcome, Went, Undefined, Idle, Lost}
use Rattle.src_rules.specs.Step.{is_some_line, act, refused, interrupted, step}
use Rattle.src_values.specs.Accesses.{Taking, Takes, Breaks, take_byte}
use Rattle.src_values.specs.Control as control
use Rattle.src_values.specs.Control.{Focus, Got, Nothing, Pending, In, active}
use Rattle.src_values.specs.Counting.{counted_line}
use Rattle.src_values.specs.Data.{Datum}
use Rattle.src_values.specs.Memory.{Setting, Memory}
use Rattle.src_values.specs.Objects.{handler_in, next_byte}
use Rattle.src_values.specs.Values.{Answer, Gives, Fails, Strays, converted, value_from, fits_behind}
use Rattle.src_values.specs.declared.objects.Byte.{Byte}
use Rattle.src_values.specs.declared.objects.CopyOf.{CopyOf}
use Rattle.src_values.specs.declared.objects.Spot.{Spot}

abbrev IsNotIdle : Outcome → Type 0
IsNotIdle Idle = ⊥
IsNotIdle _ = Unit {0}

never : (out : Outcome) → IsNotIdle out → out ≡ Idle → ⊥
never out h e = subst IsNotIdle e h

-- ---- steps
module _ (g : Setting) (c : CopyOf) (x : Focus) (k : List Pending) (m : Memory) (w : World Byte) where
  record Rests : Type 0 where
    acts : act g x k c m (arrived g.outside w) ≡ Idle
    passed : Passed g (arrived g.outside w)
    may : MayGo g c x k m w (arrived g.outside w) refl

  refused_idle : (l : Option ℕ) (out : Outcome) → refused l out ≡ Idle → (out ≡ Idle) × (is_some_line l ≡ false)
  refused_idle (Some line) (Went u event) e = absurd (never (Undefined _ line) tt e)
  refused_idle None (Went u event) e = absurd (never (Went u event) tt e)
  refused_idle l (Undefined kind line) e = absurd (never (Undefined kind line) tt e)
  refused_idle (Some line) Idle e = absurd (never (Undefined _ line) tt e)
  refused_idle None Idle e = (refl, refl)
  refused_idle l Lost e = absurd (never Lost tt e)

  rests_by : (b : Bool) (h : Option ℕ) → is_due (arrived g.outside w) ≡ b → handler_in g.program ≡ h → (if b then interrupted g h x k c m (arrived g.outside w) else act g x k c m (arrived g.outside w)) ≡ Idle → Rests
  rests_by true (Some h) due is e = absurd (never (interrupted g (Some h) x k c m (arrived g.outside w)) tt e)
  rests_by true None due is e =
      let f = refused_idle (counted_line g.program c x k) (act g x k c m (arrived g.outside w)) e in
      record { acts = f.0; passed = ap (λ d. d && is_some_line (handler_in g.program)) due ∙ ap is_some_line is; may = inr f.1 }
  rests_by false h due is e = record { acts = e; passed = ap (λ d. d && is_some_line (handler_in g.program)) due; may = inl due }

  rests_so : step g (state c x k m w) ≡ Idle → Rests
  unfolding step
  rests_so e = rests_by (is_due (arrived g.outside w)) (handler_in g.program) refl refl e

  idle_by : (b : Bool) (h l : Option ℕ) → (b && is_some_line h) ≡ false → (b ≡ false) ⊎ (is_some_line l ≡ false) → counted_line g.program c x k ≡ l → act g x k c m (arrived g.outside w) ≡ Idle
      → (if b then interrupted g h x k c m (arrived g.outside w) else act g x k c m (arrived g.outside w)) ≡ Idle
  idle_by true (Some h) l e may is a = absurd (false≢true (sym e))
  idle_by true None (Some line) e may is a = absurd (⊎_elim (λ f. false≢true (sym f)) (λ f. false≢true (sym f)) may)
  idle_by true None None e may is a = ap (λ y. refused y (act g x k c m (arrived g.outside w))) is ∙ ap (refused None) a
  idle_by false h l e may is a = a

  idle_so : Rests → step g (state c x k m w) ≡ Idle
  unfolding step
  idle_so r = idle_by (is_due (arrived g.outside w)) (handler_in g.program) (counted_line g.program c x k) r.passed r.may refl r.acts

module _ (p : Program) (rows : List Qualified) (fs : List FunctionTree) (mk : IsMade p rows fs) (o : Outside) (sound : IsProper p) where
  abbrev q : Program
  q = with_parts p rows fs

  abbrev ts : List ℕ
  ts = tables_of p

  abbrev first : ℕ
  first = length p.functions

  abbrev s : Setting
  s = record { program = p; outside = o }

  abbrev g : Setting
  g = record { program = q; outside = o }

  -- ---- in a read of a table there is a next step
  module _ (c : CopyOf) (k : List Pending) (m : Memory) (w : World Byte) where
    answered_on : (a : Answer) (line : ℕ) (j : List Pending) → IsNotIdle (answered a line j c m w)
    answered_on (Gives v) line j = tt
    answered_on (Fails kind) line j = tt
    answered_on Strays line j = tt

    taking_on : (y : Taking) (next : Byte → Focus) (j : List Pending) (line : ℕ) → IsNotIdle (after_taking y next c j m line)
    taking_on (Takes byte v event) next j line = tt
    taking_on (Breaks kind) next j line = tt

    fetch_on : (side : Side) (r : TableRead) (spot start : Spot) (read : List Byte) → IsNotIdle (fetch_as r.ty s spot read (In (read_at side r) (control.At start) ∷ k) c m w)
    fetch_on side r spot start read = by (nat_lt (length read) (type_bytes p.sizes r.ty))
      where
        by : (b : Bool)
            → IsNotIdle (if b then after_taking (take_byte s (active c (control.Fetch spot read) (In (read_at side r) (control.At start) ∷ k)) c.root (fits_behind r.ty read) spot m w) (λ byte. control.Fetch (next_byte spot) (read ++ byte ∷ [])) c (In (read_at side r) (control.At start) ∷ k) m r.line
            else fetched (value_from r.ty read) (In (read_at side r) (control.At start) ∷ k) c m w)
        by true = taking_on (take_byte s (active c (control.Fetch spot read) (In (read_at side r) (control.At start) ∷ k)) c.root (fits_behind r.ty read) spot m w) (λ byte. control.Fetch (next_byte spot) (read ++ byte ∷ [])) (In (read_at side r) (control.At start) ∷ k) r.line
        by false = tt

    value_on : (side : Side) (r : TableRead) (v : Datum) → IsNotIdle (act s (control.Holds v) (sum_frames side r (index_got side r) k) c m w)
    unfolding act
    value_on Left r v = answered_on _ _ _
    value_on Right r v = tt

    place_on : (P : Place) → ((x : Focus) → P ≡ Common x → ⊥) → IsNotIdle (act s (focus_at P) (stack_at P k) c m w)
    unfolding act
    place_on (Common x) d = absurd (d x refl)
    place_on (Finding side r) d = tt
    place_on (Summing Left r) d = tt
    place_on (Summing Right r) d = tt
    place_on (Starting r) d = tt
    place_on (Naming r) d = tt
    place_on (Spotting r) d = tt
    place_on (Pointing r) d = tt
    place_on (Converting side r e ty at) d = tt
    place_on (Holding side r v a) d = value_on side r v
    place_on (StartingBehind r v a) d = tt
    place_on (NamingBehind r v a) d = tt
    place_on (SpottingBehind r v a) d = tt
    place_on (PointingBehind r v a) d = answered_on _ _ _
    place_on (Summed side r t j) d = tt
    place_on (Reached side r t j) d = tt
    place_on (Fetching side r t j) d = fetch_on side r (element_spot r j) (element_spot r j) []
    place_on (Fetched side r j byte) d = fetch_on side r (element_spot r (j + 1)) (element_spot r j) (byte ∷ [])

  -- ---- at the same place
  module _ (c : CopyOf) (small : c.function < length p.functions) (m n : Memory) (agree : Agree p m n) (w : World Byte) where
    common_rests : (x : Focus) (ls : List Link) → IsCommon p x ls → AreLinks p ls → Stands p (state c x (given ls) m w) → step s (state c x (given ls) m w) ≡ Idle → step g (state c (added_focus ts first x) (made ts first ls) n w) ≡ Idle
    common_rests x ls common z stands e =
        let r = rests_so s c x (given ls) m w e in
        let w1 = arrived o w in
        let count = counts_same p rows fs mk o c small m n agree w1 x ls common stands.focus stands.stack in
        idle_so g c (added_focus ts first x) (made ts first ls) n w (record {
          acts = subst (λ out. Same p out (act g (added_focus ts first x) (made ts first ls) c n w1)) r.acts (act_same p rows fs mk o c small m n agree w1 x ls common stands.reached stands.focus stands.stack z);
          passed = made_passed p rows fs mk o sound w1 r.passed;
          may = ⊎_elim (λ f. inl f) (λ f. inr (count ∙ f)) r.may;
        })

    goes_on : (x : Focus) (k : List Pending) → ((v : World Byte) → IsNotIdle (act s x k c m v)) → step s (state c x k m w) ≡ Idle → ⊥
    goes_on x k h e = never _ (h (arrived o w)) (rests_so s c x k m w e).acts

    read_on : (e : Expression) (k : List Pending) (v : World Byte) (h : TableAt p e) → IsNotIdle (act s (control.Eval e) k c m v)
    unfolding act
    read_on e k v h = subst (λ e. IsNotIdle (act s (control.Eval e) k c m v)) (sym h.is) tt

    converted_on : (e : Expression) (ty : Ty) (line : ℕ) (u : Datum) (k : List Pending) (v : World Byte) → IsNotIdle (act s (control.Holds u) (control.In (tree.Convert e ty line) Nothing ∷ k) c m v)
    unfolding act
    converted_on e ty line u k v = answered_on c k m v (converted ty u) line k

    same_rests : (x : Focus) (ls : List Link) → AreLinks p ls → Stands p (state c x (given ls) m w) → step s (state c x (given ls) m w) ≡ Idle → step g (state c (added_focus ts first x) (made ts first ls) n w) ≡ Idle
    unfolding given
    same_rests (control.Eval e) ls z stands i = ⊎_elim (λ stays. common_rests (control.Eval e) ls stays z stands i) (λ h. absurd (goes_on (control.Eval e) (given ls) (λ v. read_on e (given ls) v h) i)) (reads p e)
    same_rests (control.Holds v) (Index side r ∷ ls) z stands i = absurd (goes_on (control.Holds v) (sum_frames side r (index_got side r) (given ls)) (λ y. value_on c (given ls) m y side r v) i)
    same_rests (control.Holds v) (Converted side r e ty at ∷ ls) z stands i = absurd (goes_on (control.Holds v) (given (Converted side r e ty at ∷ ls)) (λ y. converted_on e ty at v _ y) i)
    same_rests (control.Holds v) (Plain f ∷ ls) z stands i = common_rests (control.Holds v) (Plain f ∷ ls) tt z stands i
    same_rests (control.Holds v) [] z stands i = common_rests (control.Holds v) [] tt z stands i
    same_rests x ls z stands i = common_rests x ls tt z stands i

    place_rests : (P : Place) (ls : List Link) (y : World Byte) → AreLinks p ls → Holds p o P w y → Stands p (state c (focus_at P) (stack_at P (given ls)) m w) → step s (state c (focus_at P) (stack_at P (given ls)) m w) ≡ Idle
        → step g (made_at p P c (made ts first ls) n y) ≡ Idle
    place_rests (Common x) ls y z h stands i = subst (λ y. step g (state c (added_focus ts first x) (made ts first ls) n y) ≡ Idle) (sym h) (same_rests x ls z stands i)
    place_rests P ls y z h stands i = absurd (goes_on (focus_at P) (stack_at P (given ls)) (λ v. place_on c (given ls) m v P (λ x e. is_pause e)) i)
      where
        is_common : Place → Type 0
        is_common (Common x) = ⊥
        is_common _ = Unit {0}

        is_pause : {x : Focus} → P ≡ Common x → ⊥
        is_pause e = subst is_common e tt

  pub rests_too : (t v : State) → Stand p o t v → Stands p t → step s t ≡ Idle → step g v ≡ Idle
  rests_too t v d stands idle =
      let here : t ≡ state t.copy (focus_at d.place) (stack_at d.place (given d.links)) t.memory t.world = ap (λ x. state t.copy x t.stack t.memory t.world) d.focus ∙ ap (λ k. state t.copy (focus_at d.place) k t.memory t.world) d.stack in
      ap (step g) d.is
      ∙ subst (λ x. Stands p x → step s x ≡ Idle → step g (made_at p d.place t.copy (made ts first d.links) d.memory d.world) ≡ Idle) (sym here)
      (λ stands idle. place_rests t.copy d.small t.memory d.memory d.agree t.world d.place d.links d.world d.proper d.holds stands idle)
      stands idle
