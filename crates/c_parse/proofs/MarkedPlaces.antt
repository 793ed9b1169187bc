-- Marking from the left to the right marks the places that are told of (specs/MarkPlaces.antt).
use Rattle.std.proofs.Common.{◌≡◌, ℕ, zero, suc, ◌<◌, ◌≤◌, Bool, true, false, not, ◌&&◌, if◌then◌else◌, nat_eq, ◌⊎◌, inl, inr, ⊎_elim, List, [], ◌∷◌, length, take, slice_get, Some, refl, sym, ap, subst, ◌∙◌, bytes_eq, arith}
use Rattle.std.proofs.lemmas.Bool.{and_parts, and_from, and_right, cases_Bool, not-true, not_from_false, false_from_ne_true}
use Rattle.std.proofs.lemmas.Option.{slice_get_within}
use Rattle.std.proofs.lemmas.Slice.Eq.{bytes_eq-Decides}
use Rattle.c_token.specs.declared.token.Tok.{Tok}
use Rattle.c_token.specs.declared.token.TokKind.{TokKind}
use Rattle.c_token.specs.declared.token.TokKind.TheVariants as kinds
use Rattle.c_token.specs.declared.token.Keyword.TheVariants as words
use Rattle.c_token.specs.declared.token.Punct.TheVariants as marks
use Rattle.c_pre.specs.Words.{word_of}
use Rattle.c_nodes.specs.Kinds.{is_punct, is_key, is_name}
use Rattle.c_parse.specs.Limits.{open_after}
use Rattle.c_parse.specs.Marks.{Marking, nothing_marked, is_among, is_tag_word, hides, is_marked, marked_token, begins, known_behind, marked_from}
use Rattle.c_parse.specs.MarkPlaces.{depth_behind, is_outside, kind_or, kind_at, kind_before, ends_at, IsMarkedAt, GivesMarks}
use Rattle.c_parse.proofs.Names.{as_many}
use Rattle.c_parse.proofs.MarkedSteps.{Declared, Standing, Token, stands_on, nothing_stands}

-- ---- kinds
name_kind : (k : TokKind) → is_name k ≡ true → k ≡ kinds.Name
name_kind kinds.Name h = refl
name_kind _ h = absurd (cc h)

typedef_apart : (k : TokKind) → is_key words.Typedef k ≡ true → is_punct marks.Semicolon k ≡ false
typedef_apart (kinds.Punct p) h = absurd (cc h)
typedef_apart _ h = refl

same_some : {A : Type 0} (x y : A) → Some x ≡ Some y → x ≡ y
same_some x y h = cc h

got : {A : Type 0} (xs : List A) (k : ℕ) → k < length xs → (x : A) × (slice_get xs k ≡ Some x)
got [] k h = absurd (omega (arith, h))
got (x ∷ xs) zero h = (x, refl)
got (x ∷ xs) (suc k) h = got xs k (omega (arith, h))

-- what a test that makes no difference between names says of a token that is marked or not
kind_by : {A : Type 0} (f : TokKind → A) → f kinds.TypeName ≡ f kinds.Name → (t : Tok) (b : Bool) → (b ≡ true → is_name t.kind ≡ true) → f (if b then record t { kind = kinds.TypeName } else t).kind ≡ f t.kind
kind_by f e t true h = e ∙ ap f (sym (name_kind t.kind (h refl)))
kind_by f e t false h = refl

is_other : (t : Tok) (b : Bool) → b ≡ false → (if b then record t { kind = kinds.TypeName } else t) ≡ t
is_other t true h = absurd (cc h)
is_other t false h = refl

is_marked_so : (t : Tok) (b : Bool) → b ≡ true → (if b then record t { kind = kinds.TypeName } else t) ≡ record t { kind = kinds.TypeName }
is_marked_so t true h = refl
is_marked_so t false h = absurd (cc h)

no_name : (t : Tok) (b : Bool) → is_name (if b then record t { kind = kinds.TypeName } else t).kind ≡ true → b ≡ false
no_name t true h = absurd (cc h)
no_name t false h = refl

module _ (text : List ℕ) where
  -- what is known behind tokens
  state : Marking → List Tok → Marking
  state m [] = m
  state m (t ∷ ts) = state (known_behind text m (marked_token text m t)) ts

  marked_at : (m : Marking) (ts : List Tok) (k : ℕ) (t : Tok) → slice_get ts k ≡ Some t → slice_get (marked_from text m ts) k ≡ Some (marked_token text (state m (take k ts)) t)
  unfolding marked_from state
  marked_at m [] k t h = absurd (cc h)
  marked_at m (x ∷ xs) zero t h = ap (λ y. Some (marked_token text m y)) (same_some x t h)
  marked_at m (x ∷ xs) (suc k) t h = marked_at (known_behind text m (marked_token text m x)) xs k t h

  state_more : (m : Marking) (ts : List Tok) (k : ℕ) (t : Tok) → slice_get ts k ≡ Some t → state m (take (suc k) ts) ≡ known_behind text (state m (take k ts)) (marked_token text (state m (take k ts)) t)
  unfolding state
  state_more m [] k t h = absurd (cc h)
  state_more m (x ∷ xs) zero t h = ap (λ y. known_behind text m (marked_token text m y)) (same_some x t h)
  state_more m (x ∷ xs) (suc k) t h = state_more (known_behind text m (marked_token text m x)) xs k t h

  depth_more : (n : ℕ) (ts : List Tok) (k : ℕ) (t : Tok) → slice_get ts k ≡ Some t → depth_behind n (take (suc k) ts) ≡ open_after (depth_behind n (take k ts)) t.kind
  depth_more n [] k t h = absurd (cc h)
  depth_more n (x ∷ xs) zero t h = ap (λ y. open_after n y.kind) (same_some x t h)
  depth_more n (x ∷ xs) (suc k) t h = depth_more (open_after n x.kind) xs k t h

  same_kind : {A : Type 0} (f : TokKind → A) → f kinds.TypeName ≡ f kinds.Name → (m : Marking) (t : Tok) → f (marked_token text m t).kind ≡ f t.kind
  same_kind f e m t = kind_by f e t (is_marked text m t) (λ h. (and_parts (is_name t.kind) (not (hides m.before) && is_among (word_of text t) m.known) h).0)

  -- ---- what is known at a place
  record At (toks : List Tok) (k : ℕ) (m : Marking) : Type 0 where
    depth : m.depth ≡ depth_behind 0 (take k toks)
    tags : is_tag_word m.before ≡ is_tag_word (kind_before toks k)
    hidden : hides m.before ≡ hides (kind_before toks k)
    names : Standing text toks k m.inside m.coming m.known

  module _ (toks : List Tok) (k : ℕ) (m : Marking) (t : Tok) (at : slice_get toks k ≡ Some t) (s : At toks k m) where
    outside : is_outside toks k ≡ nat_eq m.depth 0
    outside = ap (λ n. nat_eq n 0) (sym s.depth)

    kind_is : {A : Type 0} (f : TokKind → A) → f kinds.TypeName ≡ f kinds.Name → f (kind_at toks k) ≡ f (marked_token text m t).kind
    kind_is f e = ap (λ o. f (kind_or (kinds.Punct marks.Semicolon) o)) at ∙ sym (same_kind f e m t)

    ends_is : ends_at toks k ≡ (nat_eq m.depth 0 && is_punct marks.Semicolon (marked_token text m t).kind)
    ends_is = ap (λ b. b && is_punct marks.Semicolon (kind_at toks k)) outside ∙ ap (λ b. nat_eq m.depth 0 && b) (kind_is (is_punct marks.Semicolon) refl)

    declares_one : (nat_eq m.depth 0 && (is_name (marked_token text m t).kind && not (is_tag_word m.before))) ≡ true → (from : ℕ) → from < k → Declared text toks from (suc k) (word_of text (marked_token text m t))
    declares_one h from lt =
        let here = and_parts (nat_eq m.depth 0) (is_name (marked_token text m t).kind && not (is_tag_word m.before)) h in
        let name = and_parts (is_name (marked_token text m t).kind) (not (is_tag_word m.before)) here.1 in
        let other : marked_token text m t ≡ t = is_other t (is_marked text m t) (no_name t (is_marked text m t) name.0) in
        record { place = k; token = t; behind = lt; within = omega arith; at = at; is = subst (λ (u : Tok). is_name u.kind ≡ true) other name.0; outside = outside ∙ here.0; no_tag = sym s.tags ∙ not-true (is_tag_word m.before) name.1; spelled = ap (word_of text) (sym other) }

    declares_all : (name : List ℕ) → is_name t.kind ≡ true → is_outside toks k ≡ true → is_tag_word (kind_before toks k) ≡ false → word_of text t ≡ name → (is_among name m.known ≡ true) ⊎ (((nat_eq m.depth 0 && (is_name (marked_token text m t).kind && not (is_tag_word m.before))) ≡ true) × (bytes_eq name (word_of text (marked_token text m t)) ≡ true))
    declares_all name is out no_tag spelled =
        ⊎_elim
        (λ e. inl (subst (λ n. is_among n m.known ≡ true) spelled (and_parts (not (hides m.before)) (is_among (word_of text t) m.known) (and_parts (is_name t.kind) (not (hides m.before) && is_among (word_of text t) m.known) e).1).1))
        (λ e. let other : marked_token text m t ≡ t = is_other t (is_marked text m t) e in
        inr (and_from (nat_eq m.depth 0) (is_name (marked_token text m t).kind && not (is_tag_word m.before)) (sym outside ∙ out) (and_from (is_name (marked_token text m t).kind) (not (is_tag_word m.before)) (subst (λ (u : Tok). is_name u.kind ≡ true) (sym other) is) (not_from_false (is_tag_word m.before) (s.tags ∙ no_tag))), (bytes_eq-Decides name (word_of text (marked_token text m t))).1 (sym spelled ∙ ap (word_of text) (sym other))))
        (cases_Bool (is_marked text m t))

    token : Token text toks k m.known (marked_token text m t) (begins m (marked_token text m t).kind) (nat_eq m.depth 0 && is_punct marks.Semicolon (marked_token text m t).kind) (nat_eq m.depth 0 && (is_name (marked_token text m t).kind && not (is_tag_word m.before)))
    token = record {
      within = slice_get_within toks k t at;
      begins = λ h. let parts = and_parts (nat_eq m.depth 0) (is_key words.Typedef (marked_token text m t).kind) h in (kind_is (is_key words.Typedef) refl ∙ parts.1, outside ∙ parts.0);
      all_begin = λ h out. and_from (nat_eq m.depth 0) (is_key words.Typedef (marked_token text m t).kind) (sym outside ∙ out) (sym (kind_is (is_key words.Typedef) refl) ∙ h);
      ends = ends_is;
      apart = λ h. and_right (is_outside toks k) (is_punct marks.Semicolon (kind_at toks k)) (typedef_apart (kind_at toks k) h);
      declares = declares_one;
      all_declare = λ from name h is.
          let same : t ≡ h.token = same_some t h.token (sym at ∙ sym (ap (slice_get toks) is) ∙ h.at) in
          declares_all name (subst (λ (u : Tok). is_name u.kind ≡ true) (sym same) h.is) (subst (λ i. is_outside toks i ≡ true) is h.outside) (subst (λ i. is_tag_word (kind_before toks i) ≡ false) is h.no_tag) (ap (word_of text) same ∙ h.spelled);
    }

    at_next : At toks (suc k) (known_behind text m (marked_token text m t))
    at_next = record {
      depth = same_kind (open_after m.depth) refl m t ∙ ap (λ n. open_after n t.kind) s.depth ∙ sym (depth_more 0 toks k t at);
      tags = sym (kind_is is_tag_word refl);
      hidden = sym (kind_is hides refl);
      names = stands_on text toks k m.inside (begins m (marked_token text m t).kind) (nat_eq m.depth 0 && is_punct marks.Semicolon (marked_token text m t).kind) (nat_eq m.depth 0 && (is_name (marked_token text m t).kind && not (is_tag_word m.before))) m.coming m.known (marked_token text m t) token s.names;
    }

    marks_here : IsMarkedAt text toks k t → is_marked text m t ≡ true
    marks_here h = and_from (is_name t.kind) (not (hides m.before) && is_among (word_of text t) m.known) h.name (and_from (not (hides m.before)) (is_among (word_of text t) m.known) (not_from_false (hides m.before) (s.hidden ∙ h.shown)) (s.names.all_known (word_of text t) h.type_name))

    marked_here : is_marked text m t ≡ true → IsMarkedAt text toks k t
    marked_here h =
        let a = and_parts (is_name t.kind) (not (hides m.before) && is_among (word_of text t) m.known) h in
        let b = and_parts (not (hides m.before)) (is_among (word_of text t) m.known) a.1 in
        record { name = a.0; shown = sym s.hidden ∙ not-true (hides m.before) b.0; type_name = s.names.known_are (word_of text t) b.1 }

  at_place : (toks : List Tok) (k : ℕ) → k ≤ length toks → At toks k (state nothing_marked (take k toks))
  unfolding state
  at_place toks zero le = record { depth = refl; tags = refl; hidden = refl; names = nothing_stands text toks }
  at_place toks (suc k) le =
      let (t, at) = got toks k (omega (arith, le)) in
      subst (At toks (suc k)) (sym (state_more nothing_marked toks k t at)) (at_next toks k (state nothing_marked (take k toks)) t at (at_place toks k (omega (arith, le))))

  at_token : (toks : List Tok) (k : ℕ) (t : Tok) → slice_get toks k ≡ Some t → At toks k (state nothing_marked (take k toks))
  at_token toks k t at = at_place toks k (let lt = slice_get_within toks k t at in omega (arith, lt))

  pub marks_are : GivesMarks text
  marks_are toks = record {
    as_many = as_many text nothing_marked toks;
    marks = λ k t at h. marked_at nothing_marked toks k t at ∙ ap (λ (u : Tok). Some u) (is_marked_so t (is_marked text (state nothing_marked (take k toks)) t) (marks_here toks k (state nothing_marked (take k toks)) t at (at_token toks k t at) h));
    keeps = λ k t at h. marked_at nothing_marked toks k t at ∙ ap (λ (u : Tok). Some u) (is_other t (is_marked text (state nothing_marked (take k toks)) t) (false_from_ne_true (is_marked text (state nothing_marked (take k toks)) t) (λ e. h (marked_here toks k (state nothing_marked (take k toks)) t at (at_token toks k t at) e))));
  }
