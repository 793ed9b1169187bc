-- Rules of a function's body, one behind the other.
use Rattle.std.proofs.Common.{◌≡◌, ℕ, ◌+◌, ◌≤◌, Bool, true, false, List, [], ◌∷◌, Option, Some, None, Result, Ok, Err, refl, sym, ap, ◌∙◌, subst, not}
use Rattle.std.specs.Prelude.{slice_get, if◌then◌else◌}
use Rattle.std.specs.Option.{option_map}
use Rattle.std.proofs.lemmas.Bool.{or_left, false≢true}
use Rattle.std.proofs.lemmas.Option.{same_Some}
use Rattle.c_typed.specs.Fits.{is_named, static_type, variable_type, register_type}
use Rattle.c_typed.specs.Sameness.{same_qualified}
use Rattle.c_typed.specs.Trees.{VariableTree, StaticTree, FunctionTree, Program}
use Rattle.c_typed.specs.declared.expression.Object.TheVariants as object
use Rattle.c_typed.specs.declared.types.Qualified.{Qualified}
use Rattle.c_typed.specs.declared.types.Ty.{Ty}
use Rattle.pic_world.specs.Registers.{register_named, bit_named}
use Rattle.type_rules.specs.Faults.{Kind, Fault, Tests}
use Rattle.type_rules.specs.Known.{Binding, ObjectName, BitName, FunctionName, TypeNamed, EnumeratorName, Scope, Known, Rule, tried, wanted, go_on}
use Rattle.type_rules.specs.Names.{bit_binding, device_binding, without_first}
use Rattle.type_rules.specs.Rows.{bytes_of}
use Rattle.typed_laws.specs.Chains.{InitialsIn, IsByte}
use Rattle.typed_laws.specs.Going.{Goes}
use Rattle.typed_laws.specs.Living.{Lives, IsNamed, AreNamed, IsSized, IsStatic, Steady, Moves, Steps}
use Rattle.typed_laws.specs.Spreading.{Grows, Scoped}
use Rattle.typed_laws.specs.Tables.{at, Adds, Each, Orderly, BindingFits, Leads}
use Rattle.typed_laws.proofs.Devices.{register_is, bit_is}
use Rattle.typed_laws.proofs.Lists.{none_is}
use Rattle.typed_laws.proofs.Same.{same_qualified_refl}
use Rattle.typed_laws.proofs.Scopes.{found_holds}
use Rattle.typed_laws.proofs.Spreading.{grows_itself, grows_on, complete_grows, stands_grows}
use Rattle.c_typed.specs.declared.program.InitialByte.TheVariants.{Address, Number}
use Rattle.c_typed.specs.declared.program.InitialByte.{InitialByte}
use Rattle.c_typed.specs.declared.program.Initial.{Initial}
use Rattle.c_typed.specs.Sound.{is_changeable}

-- ---- names in the program

named_as : (local : Bool) (t q : Qualified) → t ≡ q → is_named local (Some t) q ≡ true
named_as local t q is = or_left (same_qualified t q) _ (ap (same_qualified t) (sym is) ∙ same_qualified_refl t)

binding_fits : (params : List VariableTree) (known : Known) (p : Program) (f : FunctionTree) → Lives params known p f → (b : Binding) → IsNamed params known b → BindingFits p f b
binding_fits params known p f l (ObjectName (object.Static n) q fixed) h = let t = l.statics n h.0 h.1 in ap (λ o. is_named false (option_map static_type o) q) t.1 ∙ named_as false (t.0).ty q (t.2 ∙ h.2)
binding_fits params known p f l (ObjectName (object.Param n) q fixed) h = ap (λ o. is_named false (option_map variable_type o) q) (ap (λ vs. slice_get vs n) l.params_are ∙ h.1) ∙ named_as false (h.0).ty q h.2
binding_fits params known p f l (ObjectName (object.Local n) q fixed) h = let w = l.locals n h.0 h.1 in ap (λ o. is_named true (option_map variable_type o) q) w.1 ∙ subst (λ z. is_named true (Some (w.0).ty) z ≡ true) h.2 w.2
binding_fits params known p f l (ObjectName (object.Register n) q fixed) h = ap (λ b. is_named false (if◌then◌else◌ b (Some register_type) None) q) h.0 ∙ named_as false register_type q (sym h.1)
binding_fits params known p f l (BitName register bit) h = h
binding_fits params known p f l (FunctionName n) h = tt
binding_fits params known p f l (TypeNamed q waiting) h = tt
binding_fits params known p f l (EnumeratorName n) h = tt

module _ (params : List VariableTree) (known : Known) where
  bit_named_is : (name : List ℕ) (found : Option (ℕ × ℕ)) (b : Binding) → bit_named name ≡ found → bit_binding found ≡ Some b → IsNamed params known b
  bit_named_is name None b e is = absurd (none_is is)
  bit_named_is name (Some x) b e is = subst (IsNamed params known) (same_Some (BitName x.0 x.1) b is) (bit_is name x e)

  device_named : (name : List ℕ) (address : Option ℕ) (b : Binding) → register_named name ≡ address → device_binding address (bit_named name) ≡ Some b → IsNamed params known b
  device_named name None b e is = bit_named_is name (bit_named name) b refl is
  device_named name (Some a) b e is = subst (IsNamed params known) (same_Some _ b is) (register_is name a e, refl)

  -- In a program that goes on from the tables names have their declared types.
  pub lives_leads : Each (AreNamed params known) known.scopes → (p : Program) (f : FunctionTree) → Lives params known p f → Leads known p f
  lives_leads named p f l = record {
    begins = l.begins;
    names = λ name b is. binding_fits params known p f l b (found_holds (IsNamed params known) known.scopes name b named (device_named name (register_named name) b refl) is);
  }

-- ---- what grows

pub sized_grows : (before after : Known) → Grows before after → Orderly before → (ty : Ty) → IsSized before ty → IsSized after ty
sized_grows before after g o ty h = let c = complete_grows before after g ty h.stands h.complete in
    record { stands = stands_grows before after g o ty h.stands; complete = c.0; small = subst (λ n. n ≤ 65535) (sym c.1) h.small }

changeable_grows : (before after : Known) → Grows before after → (n : ℕ) → is_changeable (slice_get before.statics n) ≡ true → is_changeable (slice_get after.statics n) ≡ true
changeable_grows before after g n h = by_found (slice_get before.statics n) refl h
  where
    by_found : (o : Option StaticTree) → slice_get before.statics n ≡ o → is_changeable o ≡ true → is_changeable (slice_get after.statics n) ≡ true
    by_found None e h = absurd (false≢true h)
    by_found (Some s) e h = let t = g.statics n s e in ap is_changeable t.1 ∙ (ap not t.2 ∙ h)

byte_grows : (before after : Known) → Grows before after → (b : InitialByte) → IsByte before b → IsByte after b
byte_grows before after g (Number n) h = tt
byte_grows before after g (Address object byte) h = (changeable_grows before after g object h.0, h.1)

pub initials_grow : (before after : Known) → Grows before after → (low high : ℕ) (is : List Initial) → InitialsIn before low high is → InitialsIn after low high is
initials_grow before after g low high [] h = h
initials_grow before after g low high (i ∷ is) h = (h.0, byte_grows before after g i.byte h.1, initials_grow before after g (i.offset + 1) high is h.2)

pub static_grows : (before after : Known) → Grows before after → Orderly before → (s : StaticTree) → IsStatic before s → IsStatic after s
static_grows before after g o s h = record {
  sized = sized_grows before after g o (s.ty).ty h.sized;
  initial = subst (λ n. InitialsIn after 0 n s.initial) (sym (complete_grows before after g (s.ty).ty (h.sized).stands (h.sized).complete).1) (initials_grow before after g 0 (bytes_of before (s.ty).ty) s.initial h.initial);
}

-- ---- one behind the other

scoped_on : (inner : Bool) (a b c : List Scope) → Scoped inner a b → Scoped inner b c → Scoped inner a c
scoped_on true a b c g h = h ∙ g
scoped_on false a b c g h = h ∙ g

scoped_less : (inner : Bool) (a b : List Scope) → Scoped false a b → Scoped inner a b
scoped_less true a b h = ap without_first h
scoped_less false a b h = h

module _ (params : List VariableTree) where
  pub moves_itself : (inner : Bool) (known : Known) → Moves inner params known known
  moves_itself inner known = record { grows = grows_itself known; lives = λ p f l. l; statics = λ n s h. h; scopes = scoped_less inner known.scopes known.scopes refl; signatures = refl; definitions = refl; result = refl }

  pub moves_on : (inner : Bool) (a b c : Known) → Moves inner params a b → Moves inner params b c → Moves inner params a c
  moves_on inner a b c g h = record {
    grows = grows_on a b c g.grows h.grows;
    lives = λ p f l. g.lives p f (h.lives p f l);
    statics = λ n s e. h.statics n s (g.statics n s e);
    scopes = scoped_on inner a.scopes b.scopes c.scopes g.scopes h.scopes;
    signatures = h.signatures ∙ g.signatures;
    definitions = h.definitions ∙ g.definitions;
    result = h.result ∙ g.result;
  }

  pub moves_less : (inner : Bool) (a b : Known) → Moves false params a b → Moves inner params a b
  moves_less inner a b g = record { grows = g.grows; lives = g.lives; statics = g.statics; scopes = scoped_less inner a.scopes b.scopes g.scopes; signatures = g.signatures; definitions = g.definitions; result = g.result }

  module _ (inner : Bool) where
    pub steps_given : {A : Type 0} (P : A → Known → Type 0) (known : Known) (x : A) → Steady params known → P x known → Steps inner params known P (Ok (x, known))
    unfolding Steps
    steps_given P known x s holds = record { moves = moves_itself inner known; steady = s; holds = holds }

    pub steps_broken : {A : Type 0} (P : A → Known → Type 0) (known : Known) (fault : Fault) → Steps inner params known P (Err fault)
    unfolding Steps
    steps_broken P known fault = tt

    pub steps_wider : {B : Type 0} (Q : B → Known → Type 0) (before mid : Known) (r : Result (B × Known) Fault) → Moves inner params before mid → Steps inner params mid Q r → Steps inner params before Q r
    unfolding Steps
    steps_wider Q before mid (Ok x) m g = record { moves = moves_on inner before mid x.1 m g.moves; steady = g.steady; holds = g.holds }
    steps_wider Q before mid (Err fault) m g = tt

    pub steps_on : {A B : Type 0} (P : A → Known → Type 0) (Q : B → Known → Type 0) (before : Known) (r : Result (A × Known) Fault) (second : A → Rule B)
        → Steps inner params before P r → ((x : A) (mid : Known) → Moves inner params before mid → Steady params mid → P x mid → Steps inner params mid Q (second x mid)) → Steps inner params before Q (go_on second r)
    unfolding Steps
    steps_on P Q before (Ok x) second g more = steps_wider Q before x.1 (second x.0 x.1) g.moves (more x.0 x.1 g.moves g.steady g.holds)
    steps_on P Q before (Err fault) second g more = tt

    pub steps_test : {B : Type 0} (Q : B → Known → Type 0) (known : Known) (b : Bool) (kind : Kind) (tests : Tests) (line : ℕ) (second : Known → Rule B)
        → (b ≡ false → Steps inner params known Q (go_on second (tried tests line known))) → Steps inner params known Q (go_on second (tried ((b, kind) ∷ tests) line known))
    unfolding Steps
    steps_test Q known true kind tests line second more = tt
    steps_test Q known false kind tests line second more = more refl

    pub steps_wanted : {A B : Type 0} (Q : B → Known → Type 0) (known : Known) (o : Option A) (kind : Kind) (line : ℕ) (second : A → Rule B)
        → ((x : A) → o ≡ Some x → Steps inner params known Q (second x known)) → Steps inner params known Q (go_on second (wanted kind line o known))
    unfolding Steps
    steps_wanted Q known None kind line second more = tt
    steps_wanted Q known (Some x) kind line second more = more x refl

    pub steps_less : {B : Type 0} (Q : B → Known → Type 0) (before : Known) (r : Result (B × Known) Fault) → Steps false params before Q r → Steps inner params before Q r
    unfolding Steps
    steps_less Q before (Ok x) g = record { moves = moves_less inner before x.1 g.moves; steady = g.steady; holds = g.holds }
    steps_less Q before (Err fault) g = tt

  pub steps_weaker : (inner : Bool) {A : Type 0} (P Q : A → Known → Type 0) (before : Known) (r : Result (A × Known) Fault) → ((x : A) (k : Known) → Steady params k → P x k → Q x k) → Steps inner params before P r → Steps inner params before Q r
  unfolding Steps
  steps_weaker inner P Q before (Ok x) f g = record { moves = g.moves; steady = g.steady; holds = f x.0 x.1 g.steady g.holds }
  steps_weaker inner P Q before (Err fault) f g = tt

  -- ---- rules that add rows alone

  rows_moves : (known : Known) (us : List Qualified) → Adds known.targets us → Moves false params known (at known us)
  rows_moves known us adds = record {
    grows = record { rows = adds; shapes = λ n s h. (s, h, λ e. refl); statics = λ n s h. (s, h, refl) };
    lives = λ p f l. record {
      begins = record { rows = λ row q h. (l.begins).rows row q (adds row q h); structures = (l.begins).structures; closed = (l.begins).closed; functions = (l.begins).functions };
      statics = l.statics;
      params_are = l.params_are;
      locals = l.locals;
      result = l.result;
    };
    statics = λ n s h. h;
    scopes = refl;
    signatures = refl;
    definitions = refl;
    result = refl;
  }

  rows_steady : (known : Known) (us : List Qualified) → Adds known.targets us → Steady params known → Orderly (at known us) → Steady params (at known us)
  rows_steady known us adds s o =
      let g = (rows_moves known us adds).grows in
      record {
        orderly = o;
        named = s.named;
        statics = λ n x h. static_grows known (at known us) g s.orderly x (s.statics n x h);
        locals = λ n v h. sized_grows known (at known us) g s.orderly (v.ty).ty (s.locals n v h);
        result = stands_grows known (at known us) g s.orderly (known.body).result s.result;
      }

  pub from_rows : {A : Type 0} (P : A → Known → Type 0) (known : Known) (r : Result (A × Known) Fault) → Steady params known → Goes known known.targets (λ us x. P x (at known us)) r → Steps false params known P r
  unfolding Goes Steps
  from_rows P known (Ok x) s g = record {
    moves = subst (Moves false params known) (sym g.is) (rows_moves known g.rows g.adds);
    steady = subst (Steady params) (sym g.is) (rows_steady known g.rows g.adds s g.orderly);
    holds = subst (P x.0) (sym g.is) g.holds;
  }
  from_rows P known (Err fault) s g = tt
