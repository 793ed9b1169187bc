-- Static objects, with the bytes that they begin with.
use Rattle.std.proofs.Common.{◌≡◌, ℕ, ◌+◌, ◌*◌, ◌<◌, ◌≤◌, Bool, true, false, ◌||◌, ◌&&◌, List, [], ◌∷◌, ◌++◌, length, Option, Some, None, is_some, Ok, ◌⊎◌, inl, inr, refl, sym, ap, ◌∙◌, subst, arith, true≢false}
use Rattle.std.specs.Prelude.{slice_get}
use Rattle.std.proofs.lemmas.Bool.{or_left, false≢true}
use Rattle.std.proofs.lemmas.Option.{same_Some}
use Rattle.c_nodes.specs.Programs.{InitTree}
use Rattle.c_typed.specs.Sameness.{is_array}
use Rattle.c_typed.specs.Trees.{VariableTree, StaticTree, FunctionTree, Program}
use Rattle.c_typed.specs.declared.expression.Object.TheVariants as object
use Rattle.c_typed.specs.declared.types.Qualified.{Qualified}
use Rattle.type_rules.specs.Initializers.{is_unsized}
use Rattle.type_rules.specs.Known.{ObjectName, Scope, Known, go_on}
use Rattle.type_rules.specs.Names.{bound_in, without_first}
use Rattle.type_rules.specs.Objects.{closed, whole_slot, static_rule}
use Rattle.type_rules.specs.Rows.{bytes_of, is_complete, changed_at}
use Rattle.type_rules.specs.Slots.{Begun, nothing_begun}
use Rattle.typed_laws.specs.Chains.{InitialsIn, Extends, element_size, small_by, IsNear, gave_by, Begins}
use Rattle.typed_laws.specs.Living.{Lives, IsNamed, AreNamed, IsStatic, Steady, Moved, Steps}
use Rattle.typed_laws.specs.Objects.{IsDeclaredAs, IsClosed, IsBoundAs}
use Rattle.typed_laws.specs.Spreading.{Grows}
use Rattle.typed_laws.specs.Tables.{at, Adds, Each, Stands, IsObject, IsBound, Orderly}
use Rattle.typed_laws.proofs.Adding.{goes_then, orderly_other, names_more, bound_twice}
use Rattle.typed_laws.proofs.Chains.{initials_higher}
use Rattle.typed_laws.proofs.Closing.{closed_goes}
use Rattle.typed_laws.proofs.Growing.{stands_more}
use Rattle.typed_laws.proofs.Initializers.{begins_go, element_same}
use Rattle.typed_laws.proofs.Lists.{got_left, got_last, got_either, changed_last}
use Rattle.typed_laws.proofs.Living.{sized_grows, static_grows, initials_grow}
use Rattle.typed_laws.proofs.Scopes.{bound_holds, bound_outside}
use Rattle.typed_laws.proofs.Spreading.{stands_grows, scopes_grow}

pub whole_or : (b a c : Bool) → ((b && a) || c) ≡ true → (c || a) ≡ true
whole_or b a true h = refl
whole_or true true false h = refl
whole_or true false false h = absurd (false≢true h)
whole_or false a false h = absurd (false≢true h)

module _ (params : List VariableTree) (known : Known) (steady : Steady params known) (s : StaticTree) (name : List ℕ) (declared : (Stands known (s.ty).ty)) (whole : (is_complete known (s.ty).ty || is_array (s.ty).ty) ≡ true) where
  -- the tables with one static object more, in scope
  abbrev with_static : Known
  with_static = record known { statics = known.statics ++ s ∷ []; scopes = bound_in known.scopes name (ObjectName (object.Static (length known.statics)) s.ty false) }

  static_added : Grows known (record known { statics = known.statics ++ s ∷ []; scopes = bound_in known.scopes name (ObjectName (object.Static (length known.statics)) s.ty false) })
  static_added = record { rows = λ row q h. h; shapes = λ n x h. (x, h, λ e. refl); statics = λ n x h. (x, got_left known.statics (s ∷ []) n x h, refl) }

  static_object : IsObject (record known { statics = known.statics ++ s ∷ []; scopes = bound_in known.scopes name (ObjectName (object.Static (length known.statics)) s.ty false) }) (object.Static (length known.statics)) s.ty false
  static_object = record {
    stands = stands_grows known _ static_added steady.orderly (s.ty).ty declared;
    whole = whole;
    register = λ e. absurd (true≢false e);
    static = λ n e. (s, ap (slice_get (known.statics ++ s ∷ [])) (sym (same_Some (length known.statics) n e)) ∙ got_last known.statics s, refl);
  }

  pub static_orderly : Orderly (record known { statics = known.statics ++ s ∷ []; scopes = bound_in known.scopes name (ObjectName (object.Static (length known.statics)) s.ty false) })
  static_orderly = orderly_other known _ static_added steady.orderly refl refl refl refl
      (bound_holds (IsBound (record known { statics = known.statics ++ s ∷ []; scopes = bound_in known.scopes name (ObjectName (object.Static (length known.statics)) s.ty false) })) known.scopes name (ObjectName (object.Static (length known.statics)) s.ty false) static_object
      (scopes_grow known _ static_added steady.orderly known.scopes (steady.orderly).scopes))

-- Tables with one static object more, whose type and bytes are settled.
module _ (params : List VariableTree) (known : Known) (steady : Steady params known) (us : List Qualified) (adds : Adds known.targets us) (s : StaticTree) (name : List ℕ) (scopes : List Scope)
    (scopes_are : scopes ≡ bound_in known.scopes name (ObjectName (object.Static (length known.statics)) s.ty false)) where
  ended_grows : Grows known (record known { targets = us; statics = known.statics ++ s ∷ []; scopes = scopes })
  ended_grows = record { rows = adds; shapes = λ n x h. (x, h, λ e. refl); statics = λ n x h. (x, got_left known.statics (s ∷ []) n x h, refl) }

  ended_lives : (p : Program) (f : FunctionTree) → Lives params (record known { targets = us; statics = known.statics ++ s ∷ []; scopes = scopes }) p f → Lives params known p f
  ended_lives p f l = record {
    begins = record { rows = λ row q h. (l.begins).rows row q (adds row q h); structures = (l.begins).structures; closed = (l.begins).closed; functions = (l.begins).functions };
    statics = λ n x h. l.statics n x (got_left known.statics (s ∷ []) n x h);
    params_are = l.params_are;
    locals = l.locals;
    result = l.result;
  }

  ended_named : Each (AreNamed params (record known { targets = us; statics = known.statics ++ s ∷ []; scopes = scopes })) scopes
  ended_named = subst (Each (AreNamed params (record known { targets = us; statics = known.statics ++ s ∷ []; scopes = scopes }))) (sym scopes_are)
      (bound_holds (IsNamed params (record known { targets = us; statics = known.statics ++ s ∷ []; scopes = scopes })) known.scopes name (ObjectName (object.Static (length known.statics)) s.ty false) (s, got_last known.statics s, refl)
      (names_more params known (record known { targets = us; statics = known.statics ++ s ∷ []; scopes = scopes }) (λ n x h. got_left known.statics (s ∷ []) n x h) (λ n v h. h) known.scopes steady.named))

  pub static_ended : Orderly (record known { targets = us; statics = known.statics ++ s ∷ []; scopes = scopes }) → IsStatic (record known { targets = us; statics = known.statics ++ s ∷ []; scopes = scopes }) s
      → Moved true params known (λ x k. IsBoundAs known name k) (record known { targets = us; statics = known.statics ++ s ∷ []; scopes = scopes }) (record known { targets = us; statics = known.statics ++ s ∷ []; scopes = scopes })
  static_ended o own = record {
    moves = record {
      grows = ended_grows;
      lives = ended_lives;
      statics = λ n x h. got_left known.statics (s ∷ []) n x h;
      scopes = ap without_first scopes_are ∙ bound_outside known.scopes name (ObjectName (object.Static (length known.statics)) s.ty false);
      signatures = refl;
      definitions = refl;
      result = refl;
    };
    steady = record {
      orderly = o;
      named = ended_named;
      statics = statics;
      locals = λ n v h. sized_grows known _ ended_grows steady.orderly (v.ty).ty (steady.locals n v h);
      result = stands_grows known _ ended_grows steady.orderly (known.body).result steady.result;
    };
    holds = (s.ty, scopes_are, refl);
  }
    where
      statics : (n : ℕ) (x : StaticTree) → slice_get (known.statics ++ s ∷ []) n ≡ Some x → IsStatic (record known { targets = us; statics = known.statics ++ s ∷ []; scopes = scopes }) x
      statics n x h = by_cases (got_either known.statics s n x h)
        where
          by_cases : (slice_get known.statics n ≡ Some x) ⊎ ((n ≡ length known.statics) × (s ≡ x)) → IsStatic (record known { targets = us; statics = known.statics ++ s ∷ []; scopes = scopes }) x
          by_cases (inl g) = static_grows known _ ended_grows steady.orderly x (steady.statics n x g)
          by_cases (inr g) = subst (IsStatic (record known { targets = us; statics = known.statics ++ s ∷ []; scopes = scopes })) g.1 own

-- ---- the first bytes

-- What an initializer gave a static object lies within it.
initial_within : (known : Known) (ts us vs : List Qualified) (adds : Adds ts us) (adds2 : Adds us vs) (q w : Qualified) (begun : Bool) (line : ℕ) (b : Begun) → IsDeclaredAs (at known ts) begun q
    → Begins (at known ts) (at known us) (Some (whole_slot q)) (nothing_begun true line) b → IsClosed (at known us) (at known vs) q b.count w → InitialsIn (at known vs) 0 (bytes_of (at known vs) w.ty) b.initial
initial_within known ts us vs adds adds2 q w begun line b h g hw = by_size (is_unsized q.ty) refl g.2
  where
    grows : Grows (at known us) (at known vs)
    grows = record { rows = adds2; shapes = λ n x h. (x, h, λ e. refl); statics = λ n x h. (x, h, refl) }

    from_extends : (high : ℕ) → 0 + high ≤ bytes_of (at known vs) w.ty → Extends (at known us) q.ty 0 (0 + high) (nothing_begun true line) b → InitialsIn (at known vs) 0 (bytes_of (at known vs) w.ty) b.initial
    from_extends high le e = subst (InitialsIn (at known vs) 0 (bytes_of (at known vs) w.ty)) (sym e.initial_is)
        (initials_higher (at known vs) 0 (0 + high) (bytes_of (at known vs) w.ty) e.initial le (initials_grow (at known us) (at known vs) grows 0 (0 + high) e.initial e.initial_in))

    same_bytes : (a c : ℕ) → c ≡ a → 0 + a ≤ c
    same_bytes a c e = omega (arith, e)

    near_bytes : (a c : ℕ) → c ≡ a → c ≤ 65535 → IsNear (0 + a)
    near_bytes a c e small = omega (arith, e, small)

    by_size : (z : Bool) → is_unsized q.ty ≡ z → (small_by z (at known ts) (whole_slot q) → gave_by z (at known ts) (at known us) (whole_slot q) (nothing_begun true line) b) → InitialsIn (at known vs) 0 (bytes_of (at known vs) w.ty) b.initial
    by_size true e f =
        let room = hw.room e in
        let same : element_size (at known us) q.ty ≡ element_size (at known ts) q.ty = element_same known ts us adds q.ty h.stands in
        let d = f (subst (λ n. n ≤ 65535) same room.2) in
        let count : room.0 ≡ d.0 = same_Some room.0 d.0 (sym room.1 ∙ d.1) in
        let bytes : bytes_of (at known vs) w.ty ≡ element_size (at known ts) q.ty * d.0 = room.3 ∙ (ap (λ n. n * room.0) same ∙ ap (λ n. element_size (at known ts) q.ty * n) count) in
        from_extends (element_size (at known ts) q.ty * d.0) (same_bytes (element_size (at known ts) q.ty * d.0) (bytes_of (at known vs) w.ty) bytes) (d.3 (near_bytes (element_size (at known ts) q.ty * d.0) (bytes_of (at known vs) w.ty) bytes (hw.sized).small))
    by_size false e f =
        let d = f h.small in
        from_extends (bytes_of (at known ts) q.ty) (same_bytes (bytes_of (at known ts) q.ty) (bytes_of (at known vs) w.ty) (ap (λ (z : Qualified). bytes_of (at known vs) z.ty) (hw.same e))) (d.1 (near_bytes (bytes_of (at known ts) q.ty) (bytes_of (at known ts) q.ty) refl h.small))

-- ---- the rule

module _ (params : List VariableTree) (known : Known) (steady : Steady params known) (map_name name : List ℕ) (q : Qualified) (line : ℕ) where
  pub static_runs : (init : Option InitTree) → IsDeclaredAs known (is_some init) q → Steps true params known (λ x k. IsBoundAs known name k) (static_rule init map_name name q line known)
  unfolding Steps
  static_runs None h =
      let o = static_orderly params known steady (record { name = map_name; ty = q; initial = []; line = line }) name h.stands (or_left (is_complete known q.ty) (is_array q.ty) h.whole) in
      let g = static_added params known steady (record { name = map_name; ty = q; initial = []; line = line }) name h.stands (or_left (is_complete known q.ty) (is_array q.ty) h.whole) in
      static_ended params known steady known.targets (λ row r e. e) (record { name = map_name; ty = q; initial = []; line = line }) name _ refl o
      (record { sized = sized_grows known _ g steady.orderly q.ty (record { stands = h.stands; complete = h.whole; small = h.small }); initial = omega arith })
  static_runs (Some init) h = goes_then true params _ _ known (with_static params known steady (record { name = map_name; ty = q; initial = []; line = line }) name h.stands whole) known.targets _ (λ b. λ k. go_on (λ w. λ k2. Ok (complete w b k2, complete w b k2)) (closed q b.count line k))
      (begins_go (with_static params known steady (record { name = map_name; ty = q; initial = []; line = line }) name h.stands whole) init (Some (whole_slot q)) false (nothing_begun true line) known.targets o (record { stands = stands_grows known _ g steady.orderly q.ty h.stands; whole = whole }))
      (λ b us adds o2 hb. goes_then true params _ _ known (with_static params known steady (record { name = map_name; ty = q; initial = []; line = line }) name h.stands whole) us _
      (λ w. λ k. Ok (complete w b k, complete w b k))
      (closed_goes (with_static params known steady (record { name = map_name; ty = q; initial = []; line = line }) name h.stands whole) us o2 q true b.count line (record { stands = stands_more (with_static params known steady (record { name = map_name; ty = q; initial = []; line = line }) name h.stands whole) known.targets us adds q.ty (stands_grows known (with_static params known steady (record { name = map_name; ty = q; initial = []; line = line }) name h.stands whole) g steady.orderly q.ty h.stands); whole = h.whole; small = h.small })
      (λ e n is. let d = hb.1 e in subst (λ k. 0 < k) (same_Some d.0 n (sym d.1 ∙ is)) d.2))
      (λ w vs adds2 o3 hw. subst (λ l. Steps true params known (λ x k. IsBoundAs known name k) (Ok (
        record known { targets = vs; statics = l; scopes = bound_in (bound_in known.scopes name (ObjectName (object.Static (length known.statics)) q false)) name (ObjectName (object.Static (length known.statics)) w false) },
        record known { targets = vs; statics = l; scopes = bound_in (bound_in known.scopes name (ObjectName (object.Static (length known.statics)) q false)) name (ObjectName (object.Static (length known.statics)) w false) },
      )))
      (sym (changed_last known.statics (record { name = map_name; ty = q; initial = []; line = line }) (λ s. record s { ty = w; initial = b.initial })))
      (finished b us adds hb w vs adds2 o3 hw)))
    where
      whole : (is_complete known q.ty || is_array q.ty) ≡ true
      whole = whole_or true (is_array q.ty) (is_complete known q.ty) h.whole

      g : Grows known (with_static params known steady (record { name = map_name; ty = q; initial = []; line = line }) name h.stands whole)
      g = static_added params known steady (record { name = map_name; ty = q; initial = []; line = line }) name h.stands whole

      o : Orderly (with_static params known steady (record { name = map_name; ty = q; initial = []; line = line }) name h.stands whole)
      o = static_orderly params known steady (record { name = map_name; ty = q; initial = []; line = line }) name h.stands whole

      complete : Qualified → Begun → Known → Known
      complete w b k = record k { scopes = bound_in k.scopes name (ObjectName (object.Static (length known.statics)) w false); statics = changed_at k.statics (length known.statics) (λ s. record s { ty = w; initial = b.initial }) }

      finished : (b : Begun) (us : List Qualified) (adds : Adds known.targets us)
          → Begins (with_static params known steady (record { name = map_name; ty = q; initial = []; line = line }) name h.stands whole) (at (with_static params known steady (record { name = map_name; ty = q; initial = []; line = line }) name h.stands whole) us) (Some (whole_slot q)) (nothing_begun true line) b
          → (w : Qualified) (vs : List Qualified) (adds2 : Adds us vs) → Orderly (at (with_static params known steady (record { name = map_name; ty = q; initial = []; line = line }) name h.stands whole) vs)
          → IsClosed (at (with_static params known steady (record { name = map_name; ty = q; initial = []; line = line }) name h.stands whole) us) (at (with_static params known steady (record { name = map_name; ty = q; initial = []; line = line }) name h.stands whole) vs) q b.count w
          → Moved true params known (λ x k. IsBoundAs known name k)
          (record known { targets = vs; statics = known.statics ++ record { name = map_name; ty = w; initial = b.initial; line = line } ∷ []; scopes = bound_in (bound_in known.scopes name (ObjectName (object.Static (length known.statics)) q false)) name (ObjectName (object.Static (length known.statics)) w false) })
          (record known { targets = vs; statics = known.statics ++ record { name = map_name; ty = w; initial = b.initial; line = line } ∷ []; scopes = bound_in (bound_in known.scopes name (ObjectName (object.Static (length known.statics)) q false)) name (ObjectName (object.Static (length known.statics)) w false) })
      finished b us adds hb w vs adds2 o3 hw =
          static_ended params known steady vs (λ row r e. adds2 row r (adds row r e)) (record { name = map_name; ty = w; initial = b.initial; line = line }) name _
          (bound_twice known.scopes name (ObjectName (object.Static (length known.statics)) q false) (ObjectName (object.Static (length known.statics)) w false)) ordered
          (record {
            sized = sized_grows (at (with_static params known steady (record { name = map_name; ty = q; initial = []; line = line }) name h.stands whole) vs) _ more o3 w.ty hw.sized;
            initial = initials_grow (at (with_static params known steady (record { name = map_name; ty = q; initial = []; line = line }) name h.stands whole) vs) _ more 0 (bytes_of (at (with_static params known steady (record { name = map_name; ty = q; initial = []; line = line }) name h.stands whole) vs) w.ty) b.initial
                (initial_within (with_static params known steady (record { name = map_name; ty = q; initial = []; line = line }) name h.stands whole) known.targets us vs adds adds2 q w true line b
                (record { stands = stands_grows known _ g steady.orderly q.ty h.stands; whole = h.whole; small = h.small }) hb hw);
          })
        where
          more : Grows (at (with_static params known steady (record { name = map_name; ty = q; initial = []; line = line }) name h.stands whole) vs) (record known { targets = vs; statics = known.statics ++ record { name = map_name; ty = w; initial = b.initial; line = line } ∷ []; scopes = bound_in (bound_in known.scopes name (ObjectName (object.Static (length known.statics)) q false)) name (ObjectName (object.Static (length known.statics)) w false) })
          more = record { rows = λ row r e. e; shapes = λ n x e. (x, e, λ c. refl); statics = statics }
            where
              by_place : (n : ℕ) (x : StaticTree) → (slice_get known.statics n ≡ Some x) ⊎ ((n ≡ length known.statics) × (record { name = map_name; ty = q; initial = []; line = line } ≡ x))
                  → (t : StaticTree) × (slice_get (known.statics ++ record { name = map_name; ty = w; initial = b.initial; line = line } ∷ []) n ≡ Some t) × ((t.ty).constant ≡ (x.ty).constant)
              by_place n x (inl e) = (x, got_left known.statics _ n x e, refl)
              by_place n x (inr e) = (
                record { name = map_name; ty = w; initial = b.initial; line = line },
                ap (slice_get (known.statics ++ record { name = map_name; ty = w; initial = b.initial; line = line } ∷ [])) e.0 ∙ got_last known.statics (record { name = map_name; ty = w; initial = b.initial; line = line }),
                hw.constant ∙ ap (λ (z : StaticTree). (z.ty).constant) e.1,
              )

              statics : (n : ℕ) (x : StaticTree) → slice_get (known.statics ++ record { name = map_name; ty = q; initial = []; line = line } ∷ []) n ≡ Some x → (t : StaticTree) × (slice_get (known.statics ++ record { name = map_name; ty = w; initial = b.initial; line = line } ∷ []) n ≡ Some t) × ((t.ty).constant ≡ (x.ty).constant)
              statics n x e = by_place n x (got_either known.statics (record { name = map_name; ty = q; initial = []; line = line }) n x e)

          own : IsObject (record known { targets = vs; statics = known.statics ++ record { name = map_name; ty = w; initial = b.initial; line = line } ∷ []; scopes = bound_in (bound_in known.scopes name (ObjectName (object.Static (length known.statics)) q false)) name (ObjectName (object.Static (length known.statics)) w false) }) (object.Static (length known.statics)) w false
          own = record {
            stands = stands_grows (at (with_static params known steady (record { name = map_name; ty = q; initial = []; line = line }) name h.stands whole) vs) _ more o3 w.ty (hw.sized).stands;
            whole = or_left (is_complete known w.ty) (is_array w.ty) (hw.sized).complete;
            register = λ e. absurd (true≢false e);
            static = λ n e. (record { name = map_name; ty = w; initial = b.initial; line = line }, ap (slice_get (known.statics ++ record { name = map_name; ty = w; initial = b.initial; line = line } ∷ [])) (sym (same_Some (length known.statics) n e)) ∙ got_last known.statics (record { name = map_name; ty = w; initial = b.initial; line = line }), refl);
          }

          ordered : Orderly (record known { targets = vs; statics = known.statics ++ record { name = map_name; ty = w; initial = b.initial; line = line } ∷ []; scopes = bound_in (bound_in known.scopes name (ObjectName (object.Static (length known.statics)) q false)) name (ObjectName (object.Static (length known.statics)) w false) })
          ordered = orderly_other (at (with_static params known steady (record { name = map_name; ty = q; initial = []; line = line }) name h.stands whole) vs) _ more o3 refl refl refl refl
              (bound_holds (IsBound (record known { targets = vs; statics = known.statics ++ record { name = map_name; ty = w; initial = b.initial; line = line } ∷ []; scopes = bound_in (bound_in known.scopes name (ObjectName (object.Static (length known.statics)) q false)) name (ObjectName (object.Static (length known.statics)) w false) }))
              (bound_in known.scopes name (ObjectName (object.Static (length known.statics)) q false)) name (ObjectName (object.Static (length known.statics)) w false) own
              (scopes_grow (at (with_static params known steady (record { name = map_name; ty = q; initial = []; line = line }) name h.stands whole) vs) _ more o3 (bound_in known.scopes name (ObjectName (object.Static (length known.statics)) q false)) o3.scopes))
