-- Structures and arrays: tables in which a structure is added or changed stay in order.
use Rattle.std.proofs.Common.{◌≡◌, ℕ, zero, suc, ◌+◌, ◌*◌, ◌^◌, ◌%◌, ◌<◌, Bool, true, false, not, if◌then◌else◌, nat_eq, nat_lt, List, [], ◌∷◌, ◌++◌, length, Option, Some, None, Ok, ◌⊎◌, inl, inr, refl, sym, ap, ◌∙◌, subst, true≢false, arith, mul-pos}
use Rattle.std.specs.Prelude.{slice_get}
use Rattle.std.specs.Str.{bytes_eq}
use Rattle.std.proofs.lemmas.Bool.{false≢true}
use Rattle.c_ints.specs.declared.types.IntTy.{IntTy}
use Rattle.c_ints.specs.declared.types.IntTy.TheVariants as int
use Rattle.c_typed.specs.Types.{kept}
use Rattle.c_typed.specs.declared.types.Qualified.{Qualified}
use Rattle.c_typed.specs.declared.types.Ty.{Ty}
use Rattle.c_typed.specs.declared.types.Ty.TheVariants.{Void, Int, Pointer, Array, Struct}
use Rattle.type_rules.specs.Known.{Tag, Field, Progress, Absent, Open, Closed, Shape, Known, given}
use Rattle.type_rules.specs.Names.{entry_of, with_entry}
use Rattle.type_rules.specs.Rows.{plain, like, place_of_row, array_of, bytes_of, is_complete, is_closed, is_absent, progress_in, changed_at, no_members, tagged, set_progress, with_member, add_member, fields_in, fields_of}
use Rattle.typed_laws.specs.Going.{Goes}
use Rattle.typed_laws.specs.Spreading.{Grows, Spared, Spreads, Runs, HasFields, IsOpen}
use Rattle.typed_laws.specs.Tables.{at, Each, IsElement, Stands, IsMember, AreMembers, HasSome, IsShape, IsTag, Orderly}
use Rattle.typed_laws.proofs.Enumerating.{enumerated_none}
use Rattle.typed_laws.proofs.Growing.{row_goes, row_exact, stands_more}
use Rattle.typed_laws.proofs.Lists.{none_is, same_answer, got_left, got_last, got_either, numbered_at, changed_same, changed_other, changed_from}
use Rattle.typed_laws.proofs.Spreading.{equal_or_not, stands_grows, members_grow, shape_grows, scopes_grow, tags_grow, results_grow}
use Rattle.typed_laws.proofs.Steps.{goes_given, goes_on}
use Rattle.c_ints.specs.Range as range

-- ---- sizes

pub kept_some : (n : ℕ) → 0 < n → 0 < kept n
kept_some n h = by_test (nat_lt n (2 ^ 40))
  where
    by_test : (b : Bool) → 0 < (if b then n else n % 65536 + 2 ^ 40)
    by_test true = h
    by_test false = omega arith

int_some : (i : IntTy) → 0 < range.bytes_of i
int_some int.Char = omega arith
int_some int.SChar = omega arith
int_some int.UChar = omega arith
int_some int.Short = omega arith
int_some int.UShort = omega arith
int_some int.Int = omega arith
int_some int.UInt = omega arith
int_some int.Long = omega arith
int_some int.ULong = omega arith

not_zero : (n : ℕ) → not (nat_eq n 0) ≡ true → 0 < n
not_zero zero h = absurd (false≢true h)
not_zero (suc n) h = omega arith

has_bytes : (fields : List (List ℕ × Field)) (size : ℕ) → HasSome fields size → 0 < size
has_bytes [] size h = absurd h
has_bytes (m ∷ ms) size h = h

-- A complete type has a byte at least.
pub some_bytes : (known : Known) → Orderly known → (ty : Ty) → Stands known ty → is_complete known ty ≡ true → 0 < bytes_of known ty
some_bytes known o Void stands h = absurd (false≢true h)
some_bytes known o (Int i) stands h = int_some i
some_bytes known o (Pointer row) stands h = omega arith
some_bytes known o (Array row n size) stands h =
    let e : IsElement known stands.0 n size = stands.2 in
    subst (λ s. 0 < s) (sym e.whole) (kept_some (n * bytes_of known (stands.0).ty) (mul-pos (not_zero n h) e.some))
some_bytes known o (Struct number) stands h =
    let s : Shape = stands.0 in
    let closed = ap (λ x. is_closed (progress_in x)) (sym stands.1) ∙ h in
    subst (λ n. 0 < n) (sym (numbered_at (λ x. x.size) known.shapes number s stands.1)) (has_bytes s.fields s.size ((o.shapes number s stands.1).some closed))

-- ---- arrays

-- An array of what is complete stands.
module _ (known : Known) (ts : List Qualified) (o : Orderly (at known ts)) where
  pub array_goes : (element : Qualified) (count : ℕ) → Stands (at known ts) element.ty
      → Goes known ts (λ us q. is_complete (at known us) element.ty ≡ true → Stands (at known us) q.ty) (array_of element count (at known ts))
  array_goes element count stands = goes_on known _ _ ts _ (λ row. given (like element (Array row count (kept (count * bytes_of (at known ts) element.ty))))) (row_goes known ts (plain element.ty) o stands)
      (λ row us adds ordered there. goes_given known _ _ us ordered
      (λ complete. (plain element.ty, there, record { constant = refl; volatile = refl; stands = complete; some = some_bytes (at known us) ordered element.ty (stands_more known ts us adds element.ty stands) complete; whole = refl })))

  -- the array itself
  pub array_exact : (element : Qualified) (count : ℕ) → Stands (at known ts) element.ty
      → Goes known ts (λ us q. (q ≡ like element (Array (place_of_row ts (plain element.ty)) count (kept (count * bytes_of (at known ts) element.ty)))) × (is_complete (at known us) element.ty ≡ true → Stands (at known us) q.ty)) (array_of element count (at known ts))
  array_exact element count stands = goes_on known (λ us row. (row ≡ place_of_row ts (plain element.ty)) × (slice_get us row ≡ Some (plain element.ty))) _ ts _ (λ row. given (like element (Array row count (kept (count * bytes_of (at known ts) element.ty)))))
      (row_exact known ts (plain element.ty) o stands)
      (λ row us adds ordered there. goes_given known _ _ us ordered (
        ap (λ r. like element (Array r count (kept (count * bytes_of (at known ts) element.ty)))) there.0,
        (λ complete. (plain element.ty, there.1, record { constant = refl; volatile = refl; stands = complete; some = some_bytes (at known us) ordered element.ty (stands_more known ts us adds element.ty stands) complete; whole = refl })),
      ))

-- ---- a structure more

pub shaped_orderly : (known : Known) (shapes : List Shape) (tags : List (List ℕ × Tag)) → Orderly known → Grows known (record known { shapes = shapes; tags = tags })
    → ((n : ℕ) (s : Shape) → slice_get shapes n ≡ Some s → IsShape (record known { shapes = shapes; tags = tags }) s) → Each (λ e. IsTag (record known { shapes = shapes; tags = tags }) e.1) tags → Orderly (record known { shapes = shapes; tags = tags })
shaped_orderly known shapes tags o g all tagged = record {
  rows = λ row q h. stands_grows known (record known { shapes = shapes; tags = tags }) g o q.ty (o.rows row q h);
  distinct = o.distinct;
  shapes = all;
  scopes = scopes_grow known (record known { shapes = shapes; tags = tags }) g o known.scopes o.scopes;
  tags = tagged;
  results = λ n s h. results_grow known (record known { shapes = shapes; tags = tags }) g o s (o.results n s h);
}

module _ (known : Known) (o : Orderly known) (tags : List (List ℕ × Tag)) (all_there : Each (λ e. IsTag (record known { shapes = known.shapes ++ no_members ∷ []; tags = tags }) e.1) tags) where
  more_grows : Grows known (record known { shapes = known.shapes ++ no_members ∷ []; tags = tags })
  more_grows = record { rows = λ row q h. h; shapes = λ n s h. (s, got_left known.shapes (no_members ∷ []) n s h, λ e. refl); statics = λ n s h. (s, h, refl) }

  more_shapes : (n : ℕ) (s : Shape) → slice_get (known.shapes ++ no_members ∷ []) n ≡ Some s → IsShape (record known { shapes = known.shapes ++ no_members ∷ []; tags = tags }) s
  more_shapes n s h = by_cases (got_either known.shapes no_members n s h)
    where
      by_cases : (slice_get known.shapes n ≡ Some s) ⊎ ((n ≡ length known.shapes) × (no_members ≡ s)) → IsShape (record known { shapes = known.shapes ++ no_members ∷ []; tags = tags }) s
      by_cases (inl g) = shape_grows known (record known { shapes = known.shapes ++ no_members ∷ []; tags = tags }) more_grows o s (o.shapes n s g)
      by_cases (inr g) = subst (IsShape (record known { shapes = known.shapes ++ no_members ∷ []; tags = tags })) g.1 (record { members = refl; some = λ e. absurd (false≢true e) })

  -- A new structure is there, and has no body.
  pub more_runs : Runs None false known (λ n k. (s : Shape) × (slice_get k.shapes n ≡ Some s)) (Ok (length known.shapes, record known { shapes = known.shapes ++ no_members ∷ []; tags = tags }))
  unfolding Runs
  more_runs = record {
    spreads = record {
      grows = more_grows;
      spared = λ n s h body free. got_left known.shapes (no_members ∷ []) n s h;
      scopes = enumerated_none known.scopes known.scopes refl;
      signatures = refl;
      definitions = refl;
      statics = refl;
      body = refl;
    };
    orderly = shaped_orderly known (known.shapes ++ no_members ∷ []) tags o more_grows more_shapes all_there;
    holds = (no_members, got_last known.shapes no_members);
  }

-- ---- a structure that changes

-- The structure of a number, which has no whole body, changes to one that is in order too.
module _ (known : Known) (o : Orderly known) (number : ℕ) (s : Shape) (there : slice_get known.shapes number ≡ Some s) (unfinished : is_closed s.body ≡ false) (change : Shape → Shape) where
  changed_there : slice_get (changed_at known.shapes number change) number ≡ Some (change s)
  changed_there = changed_same known.shapes number change s there

  pub changed_grows : Grows known (record known { shapes = changed_at known.shapes number change })
  changed_grows = record { rows = λ row q h. h; shapes = shapes; statics = λ n x h. (x, h, refl) }
    where
      at_one : (n : ℕ) (x : Shape) → slice_get known.shapes n ≡ Some x → (number ≡ n) ⊎ (number ≡ n → ⊥) → (t : Shape) × (slice_get (changed_at known.shapes number change) n ≡ Some t) × (is_closed x.body ≡ true → t ≡ x)
      at_one n x h (inl e) =
          let same : s ≡ x = same_answer (slice_get known.shapes n) s x (ap (slice_get known.shapes) (sym e) ∙ there) h in
          (change s, ap (slice_get (changed_at known.shapes number change)) (sym e) ∙ changed_there, λ closed. absurd (true≢false (sym closed ∙ (ap (λ (z : Shape). is_closed z.body) (sym same) ∙ unfinished))))
      at_one n x h (inr apart) = (x, changed_other known.shapes number n change apart ∙ h, λ closed. refl)

      shapes : (n : ℕ) (x : Shape) → slice_get known.shapes n ≡ Some x → (t : Shape) × (slice_get (changed_at known.shapes number change) n ≡ Some t) × (is_closed x.body ≡ true → t ≡ x)
      shapes n x h = at_one n x h (equal_or_not number n)

  pub changed_orderly : IsShape (record known { shapes = changed_at known.shapes number change }) (change s) → Orderly (record known { shapes = changed_at known.shapes number change })
  changed_orderly own = shaped_orderly known (changed_at known.shapes number change) known.tags o changed_grows all (tags_grow known (record known { shapes = changed_at known.shapes number change }) changed_grows known.tags o.tags)
    where
      all : (n : ℕ) (x : Shape) → slice_get (changed_at known.shapes number change) n ≡ Some x → IsShape (record known { shapes = changed_at known.shapes number change }) x
      all n x h = by_cases (changed_from known.shapes number n change x h)
        where
          by_cases : (slice_get known.shapes n ≡ Some x) ⊎ ((number ≡ n) × (y : Shape) × (slice_get known.shapes n ≡ Some y) × (change y ≡ x)) → IsShape (record known { shapes = changed_at known.shapes number change }) x
          by_cases (inl g) = shape_grows known (record known { shapes = changed_at known.shapes number change }) changed_grows o x (o.shapes n x g)
          by_cases (inr g) = let same : s ≡ g.1 = same_answer (slice_get known.shapes n) s g.1 (ap (slice_get known.shapes) (sym g.0) ∙ there) g.2 in
              subst (IsShape (record known { shapes = changed_at known.shapes number change })) (ap change same ∙ g.3) own

  pub changed_spreads : (skip : Option ℕ) → ((n : ℕ) → Spared skip n → is_absent s.body ≡ false → number ≡ n → ⊥) → Spreads skip false known (record known { shapes = changed_at known.shapes number change })
  changed_spreads skip own = record {
    grows = changed_grows;
    spared = λ n x h body free. changed_other known.shapes number n change
        (λ e. own n free (subst (λ (z : Shape). is_absent z.body ≡ false) (sym (same_answer (slice_get known.shapes n) s x (ap (slice_get known.shapes) (sym e) ∙ there) h)) body) e) ∙ h;
    scopes = enumerated_none known.scopes known.scopes refl;
    signatures = refl;
    definitions = refl;
    statics = refl;
    body = refl;
  }

-- ---- the body of a structure

-- members behind those that are there
members_last : (known : Known) (b : ℕ) (ms : List (List ℕ × Field)) (size : ℕ) (m : List ℕ × Field) → AreMembers known b ms size → IsMember known m.1 size → AreMembers known b (ms ++ m ∷ []) (kept (size + bytes_of known ((m.1).ty).ty))
members_last known b [] size m all one = (subst (IsMember known m.1) (sym all) one, ap (λ n. kept (n + bytes_of known ((m.1).ty).ty)) all)
members_last known b (x ∷ ms) size m all one = (all.0, members_last known (kept (b + bytes_of known ((x.1).ty).ty)) ms size m all.1 one)

new_by : (c : Bool) (name : List ℕ) (f : Field) (e : List ℕ × Field) (es rest : List (List ℕ × Field)) (found : Option Field) → (found ≡ None → rest ≡ es ++ (name, f) ∷ []) → (if c then Some e.1 else found) ≡ None → (if c then (name, f) ∷ es else e ∷ rest) ≡ (e ∷ es) ++ (name, f) ∷ []
new_by true name f e es rest found more h = absurd (none_is (sym h))
new_by false name f e es rest found more h = ap (λ l. e ∷ l) (more h)

-- a name that isn't there is put last
pub entry_new : (es : List (List ℕ × Field)) (name : List ℕ) (f : Field) → entry_of es name ≡ None → with_entry es name f ≡ es ++ (name, f) ∷ []
entry_new [] name f h = refl
entry_new (e ∷ es) name f h = new_by (bytes_eq e.0 name) name f e es (with_entry es name f) (entry_of es name) (entry_new es name f) h

has_last : (es : List (List ℕ × Field)) (m : List ℕ × Field) → HasFields (es ++ m ∷ [])
has_last [] m = tt
has_last (e ∷ es) m = tt

-- members that are there have bytes together
pub some_from : (known : Known) (b : ℕ) (ms : List (List ℕ × Field)) (size : ℕ) → AreMembers known b ms size → 0 < b → 0 < size
some_from known b [] size all h = subst (λ n. 0 < n) all h
some_from known b (m ∷ ms) size all h = let more : 0 < b + bytes_of known ((m.1).ty).ty = omega (arith, h) in some_from known (kept (b + bytes_of known ((m.1).ty).ty)) ms size all.1 (kept_some (b + bytes_of known ((m.1).ty).ty) more)

pub has_some : (known : Known) (ms : List (List ℕ × Field)) (size : ℕ) → AreMembers known 0 ms size → HasFields ms → HasSome ms size
has_some known [] size all h = h
has_some known (m ∷ ms) size all h = let more : 0 < 0 + bytes_of known ((m.1).ty).ty = omega (arith, (all.0).some) in some_from known (kept (0 + bytes_of known ((m.1).ty).ty)) ms size all.1 (kept_some (0 + bytes_of known ((m.1).ty).ty) more)

-- a structure with members has bytes
pub some_size : (known : Known) (m : List ℕ × Field) (ms : List (List ℕ × Field)) (size : ℕ) → AreMembers known 0 (m ∷ ms) size → 0 < size
some_size known m ms size all = has_some known (m ∷ ms) size all tt

open_unfinished : (b : Progress) → b ≡ Open → is_closed b ≡ false
open_unfinished b e = ap is_closed e

open_present : (b : Progress) → b ≡ Open → is_absent b ≡ false
open_present b e = ap is_absent e

module _ (known : Known) (o : Orderly known) (number : ℕ) where
  -- A body is opened.
  pub opened_runs : (s : Shape) → slice_get known.shapes number ≡ Some s → is_absent s.body ≡ true → Runs None false known (λ x k. IsOpen false k number) (set_progress number Open known)
  unfolding Runs
  opened_runs s there absent = record {
    spreads = changed_spreads known o number s there unfinished (λ x. record x { body = Open }) None (λ n free present e. true≢false (sym absent ∙ present));
    orderly = changed_orderly known o number s there unfinished (λ x. record x { body = Open }) (record {
      members = members_grow known _ (changed_grows known o number s there unfinished (λ x. record x { body = Open })) o 0 s.fields s.size (o.shapes number s there).members;
      some = λ e. absurd (false≢true e);
    });
    holds = record { shape = record s { body = Open }; there = changed_same known.shapes number (λ x. record x { body = Open }) s there; opened = refl; fields = λ e. absurd (false≢true e) };
  }
    where
      unfinished : is_closed s.body ≡ false
      unfinished = by_body s.body absent
        where
          by_body : (b : Progress) → is_absent b ≡ true → is_closed b ≡ false
          by_body Absent e = refl
          by_body Open e = refl
          by_body Closed e = absurd (false≢true e)

  module _ (some : Bool) (h : IsOpen some known number) where
    -- A body ends, with members.
    pub closed_runs : some ≡ true → Runs (Some number) false known (λ x k. (s : Shape) × (slice_get k.shapes number ≡ Some s)) (set_progress number Closed known)
    unfolding Runs
    closed_runs filled = record {
      spreads = changed_spreads known o number h.shape h.there (open_unfinished (h.shape).body h.opened) (λ x. record x { body = Closed }) (Some number) (λ n free present e. free e);
      orderly = changed_orderly known o number h.shape h.there (open_unfinished (h.shape).body h.opened) (λ x. record x { body = Closed }) (record {
        members = members_grow known _ (changed_grows known o number h.shape h.there (open_unfinished (h.shape).body h.opened) (λ x. record x { body = Closed })) o 0 (h.shape).fields (h.shape).size (o.shapes number h.shape h.there).members;
        some = λ e. has_some known (h.shape).fields (h.shape).size (o.shapes number h.shape h.there).members (h.fields filled);
      });
      holds = (record h.shape { body = Closed }, changed_same known.shapes number (λ x. record x { body = Closed }) h.shape h.there);
    }

    -- A member is added.
    pub member_runs : (name : List ℕ) (q : Qualified) → Stands known q.ty → is_complete known q.ty ≡ true → q.constant ≡ false → entry_of (fields_of known number) name ≡ None
        → Runs (Some number) false known (λ x k. IsOpen true k number) (add_member number name q known)
    unfolding Runs
    member_runs name q stands complete constant new = record {
      spreads = changed_spreads known o number h.shape h.there (open_unfinished (h.shape).body h.opened) (with_member name q (bytes_of known q.ty)) (Some number) (λ n free present e. free e);
      orderly = changed_orderly known o number h.shape h.there (open_unfinished (h.shape).body h.opened) (with_member name q (bytes_of known q.ty)) (record {
        members = subst (λ l. AreMembers (record known { shapes = changed_at known.shapes number (with_member name q (bytes_of known q.ty)) }) 0 l (kept ((h.shape).size + bytes_of known q.ty))) (sym fields_are)
            (members_grow known _ grows o 0 ((h.shape).fields ++ (name, record { ty = q; offset = (h.shape).size }) ∷ []) (kept ((h.shape).size + bytes_of known q.ty))
            (members_last known 0 (h.shape).fields (h.shape).size (name, record { ty = q; offset = (h.shape).size }) (o.shapes number h.shape h.there).members
            (record { offset = refl; stands = stands; whole = complete; some = some_bytes known o q.ty stands complete; constant = constant })));
        some = λ e. absurd (true≢false (sym e ∙ open_unfinished (h.shape).body h.opened));
      });
      holds = record {
        shape = with_member name q (bytes_of known q.ty) h.shape;
        there = changed_same known.shapes number (with_member name q (bytes_of known q.ty)) h.shape h.there;
        opened = h.opened;
        fields = λ e. subst HasFields (sym fields_are) (has_last (h.shape).fields (name, record { ty = q; offset = (h.shape).size }));
      };
    }
      where
        grows : Grows known (record known { shapes = changed_at known.shapes number (with_member name q (bytes_of known q.ty)) })
        grows = changed_grows known o number h.shape h.there (open_unfinished (h.shape).body h.opened) (with_member name q (bytes_of known q.ty))

        fields_are : with_entry (h.shape).fields name (record { ty = q; offset = (h.shape).size }) ≡ (h.shape).fields ++ (name, record { ty = q; offset = (h.shape).size }) ∷ []
        fields_are = entry_new (h.shape).fields name (record { ty = q; offset = (h.shape).size }) (ap (λ x. entry_of (fields_in x) name) (sym h.there) ∙ new)

-- an open body that a rule leaves as it is
pub open_kept : (some : Bool) (before after : Known) (number : ℕ) → Spreads None false before after → IsOpen some before number → IsOpen some after number
open_kept some before after number s h = record { shape = h.shape; there = s.spared number h.shape h.there (open_present (h.shape).body h.opened) tt; opened = h.opened; fields = h.fields }
