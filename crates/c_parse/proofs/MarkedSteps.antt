-- What is known at a token, as what the tokens before it say of places.
use Rattle.std.proofs.Common.{◌≡◌, ℕ, suc, ◌<◌, Bool, true, false, not, ◌&&◌, ◌||◌, if◌then◌else◌, ◌⊎◌, inl, inr, ⊎_elim, List, [], ◌∷◌, ◌++◌, map, length, slice_get, Some, refl, sym, subst, bytes_eq, arith}
use Rattle.std.proofs.lemmas.Bool.{cases_lt}
use Rattle.std.proofs.lemmas.Slice.Eq.{bytes_eq-Decides}
use Rattle.c_token.specs.declared.token.Tok.{Tok}
use Rattle.c_token.specs.declared.token.Keyword.TheVariants as words
use Rattle.c_pre.specs.Words.{word_of}
use Rattle.c_nodes.specs.Kinds.{is_key, is_name}
use Rattle.c_parse.specs.Marks.{is_among, with_names, is_tag_word}
use Rattle.c_parse.specs.MarkPlaces.{is_outside, kind_at, kind_before, ends_at, IsTypedef, IsTypeName}
use Rattle.c_parse.proofs.MarkedNames.{put_are, put_keeps, put_all, word_last, last_word, first_words}

-- The declaration of a `typedef` is under way at a place.
pub record Opened (toks : List Tok) (from k : ℕ) : Type 0 where
  pub begins : is_key words.Typedef (kind_at toks from) ≡ true
  pub outside : is_outside toks from ≡ true
  pub later : from < k
  pub none : (j : ℕ) → from < j → j < k → ends_at toks j ≡ false

-- Between two places a name is declared.
pub record Declared (text : List ℕ) (toks : List Tok) (from k : ℕ) (name : List ℕ) : Type 0 where
  pub place : ℕ
  pub token : Tok
  pub behind : from < place
  pub within : place < k
  pub at : slice_get toks place ≡ Some token
  pub is : is_name token.kind ≡ true
  pub outside : is_outside toks place ≡ true
  pub no_tag : is_tag_word (kind_before toks place) ≡ false
  pub spelled : word_of text token ≡ name

-- A declaration is under way, and has these names so far.
pub record OpenedWith (text : List ℕ) (toks : List Tok) (k : ℕ) (coming : List Tok) : Type 0 where
  pub from : ℕ
  pub opened : Opened toks from k
  pub declared : (name : List ℕ) → is_among name (map (word_of text) coming) ≡ true → Declared text toks from k name

-- What is known at a place is what the tokens before it say.
pub record Standing (text : List ℕ) (toks : List Tok) (k : ℕ) (inside : Bool) (coming : List Tok) (known : List (List ℕ)) : Type 0 where
  pub idle : inside ≡ false → coming ≡ []
  pub busy : inside ≡ true → OpenedWith text toks k coming
  pub all_open : (from : ℕ) → Opened toks from k → inside ≡ true
  pub all_coming : (from : ℕ) (name : List ℕ) → Opened toks from k → Declared text toks from k name → (is_among name (map (word_of text) coming) ≡ true) ⊎ (is_among name known ≡ true)
  pub known_are : (name : List ℕ) → is_among name known ≡ true → IsTypeName text toks k name
  pub all_known : (name : List ℕ) → IsTypeName text toks k name → is_among name known ≡ true

-- ---- numbers
last : (j k : ℕ) → j < suc k → (j < k) ⊎ (j ≡ k)
last j k h = ⊎_elim (λ lt. inl lt) (λ le. inr (omega (arith, h, le))) (cases_lt j k)

one_of : (b : Bool) → b ≡ true → b ≡ false → ⊥
one_of true h g = absurd (cc g)
one_of false h g = absurd (cc h)

module _ (text : List ℕ) (toks : List Tok) where
  ended : (from k : ℕ) → Opened toks from k → k < length toks → ends_at toks k ≡ true → IsTypedef toks from k
  ended from k o lt e = record { begins = o.begins; outside = o.outside; later = o.later; within = lt; ends = e; first = o.none }

  under_way : (from to : ℕ) → IsTypedef toks from to → Opened toks from to
  under_way from to d = record { begins = d.begins; outside = d.outside; later = d.later; none = d.first }

  named : (from to k : ℕ) (name : List ℕ) → IsTypedef toks from to → to < k → Declared text toks from to name → IsTypeName text toks k name
  named from to k name d lt h = record { from = from; to = to; place = h.place; token = h.token; typedef = d; before = lt; behind = h.behind; inside = h.within; at = h.at; is = h.is; outside = h.outside; no_tag = h.no_tag; spelled = h.spelled }

  declared_in : (k : ℕ) (name : List ℕ) (h : IsTypeName text toks k name) → Declared text toks h.from h.to name
  declared_in k name h = record { place = h.place; token = h.token; behind = h.behind; within = h.inside; at = h.at; is = h.is; outside = h.outside; no_tag = h.no_tag; spelled = h.spelled }

  named_later : (k : ℕ) (name : List ℕ) → IsTypeName text toks k name → IsTypeName text toks (suc k) name
  named_later k name h = named h.from h.to (suc k) name h.typedef (let b = h.before in omega (arith, b)) (declared_in k name h)

  named_before : (k : ℕ) (name : List ℕ) (h : IsTypeName text toks (suc k) name) → h.to < k → IsTypeName text toks k name
  named_before k name h lt = named h.from h.to k name h.typedef lt (declared_in (suc k) name h)

  declared_later : (from k : ℕ) (name : List ℕ) → Declared text toks from k name → Declared text toks from (suc k) name
  declared_later from k name h = record { place = h.place; token = h.token; behind = h.behind; within = (let w = h.within in omega (arith, w)); at = h.at; is = h.is; outside = h.outside; no_tag = h.no_tag; spelled = h.spelled }

  declared_before : (from k : ℕ) (name : List ℕ) (h : Declared text toks from (suc k) name) → h.place < k → Declared text toks from k name
  declared_before from k name h lt = record { place = h.place; token = h.token; behind = h.behind; within = lt; at = h.at; is = h.is; outside = h.outside; no_tag = h.no_tag; spelled = h.spelled }

  opened_before : (from k : ℕ) → Opened toks from (suc k) → from < k → Opened toks from k
  opened_before from k o lt = record { begins = o.begins; outside = o.outside; later = lt; none = λ j a b. o.none j a (omega (arith, b)) }

  opened_later : (from k : ℕ) → Opened toks from k → ends_at toks k ≡ false → Opened toks from (suc k)
  opened_later from k o e = record { begins = o.begins; outside = o.outside; later = (let l = o.later in omega (arith, l)); none = λ j a b. ⊎_elim (λ lt. o.none j a lt) (λ is. subst (λ i. ends_at toks i ≡ false) (sym is) e) (last j k b) }

  -- ---- the token at a place, by which a declaration begins (b) or ends (e), or which declares a name (d)
  pub record Token (k : ℕ) (known : List (List ℕ)) (t : Tok) (b e d : Bool) : Type 0 where
    pub within : k < length toks
    pub begins : b ≡ true → (is_key words.Typedef (kind_at toks k) ≡ true) × (is_outside toks k ≡ true)
    pub all_begin : is_key words.Typedef (kind_at toks k) ≡ true → is_outside toks k ≡ true → b ≡ true
    pub ends : ends_at toks k ≡ e
    pub apart : is_key words.Typedef (kind_at toks k) ≡ true → ends_at toks k ≡ false
    pub declares : d ≡ true → (from : ℕ) → from < k → Declared text toks from (suc k) (word_of text t)
    pub all_declare : (from : ℕ) (name : List ℕ) (h : Declared text toks from (suc k) name) → h.place ≡ k → (is_among name known ≡ true) ⊎ ((d ≡ true) × (bytes_eq name (word_of text t) ≡ true))

  -- one of a place more began before
  began : (from k : ℕ) (known : List (List ℕ)) (t : Tok) (b e d : Bool) → Token k known t b e d → Opened toks from (suc k) → (from < k) ⊎ (b ≡ true)
  began from k known t b e d at o = ⊎_elim (λ lt. inl lt) (λ is. inr (at.all_begin (subst (λ i. is_key words.Typedef (kind_at toks i) ≡ true) is o.begins) (subst (λ i. is_outside toks i ≡ true) is o.outside))) (last from k o.later)

  -- where the token ends a declaration, none is under way behind it
  none_open : (from k : ℕ) → (is_key words.Typedef (kind_at toks k) ≡ true → ends_at toks k ≡ false) → ends_at toks k ≡ true → Opened toks from (suc k) → ⊥
  none_open from k apart e o =
      ⊎_elim (λ lt. one_of (ends_at toks k) e (o.none k lt (omega arith)))
      (λ is. one_of (ends_at toks k) e (apart (subst (λ i. is_key words.Typedef (kind_at toks i) ≡ true) is o.begins)))
      (last from k o.later)

  never : false ≡ true → ⊥
  never h = absurd (cc h)

  never_false : true ≡ false → ⊥
  never_false h = absurd (cc h)

  nothing_among : (name : List ℕ) → is_among name [] ≡ true → ⊥
  nothing_among name h = absurd (cc h)

  -- no declaration is under way, and none begins
  stays_idle : (k : ℕ) (coming : List Tok) (known : List (List ℕ)) (t : Tok) (e d : Bool) → Token k known t false e d → Standing text toks k false coming known → Standing text toks (suc k) false coming known
  stays_idle k coming known t e d at s =
      let none : (from : ℕ) → Opened toks from (suc k) → ⊥ = λ from o. ⊎_elim (λ lt. never (s.all_open from (opened_before from k o lt))) (λ b. never b) (began from k known t false e d at o) in
      record {
        idle = s.idle;
        busy = λ h. absurd (never h);
        all_open = λ from o. absurd (none from o);
        all_coming = λ from name o h. absurd (none from o);
        known_are = λ name h. named_later k name (s.known_are name h);
        all_known = λ name h. ⊎_elim (λ lt. s.all_known name (named_before k name h lt)) (λ is. absurd (never (s.all_open h.from (subst (λ i. Opened toks h.from i) is (under_way h.from h.to h.typedef))))) (last h.to k h.before);
      }

  -- none is under way, and one begins
  begins_one : (k : ℕ) (coming : List Tok) (known : List (List ℕ)) (t : Tok) (e d : Bool) → Token k known t true e d → Standing text toks k false coming known → Standing text toks (suc k) true coming known
  begins_one k coming known t e d at s =
      let b = at.begins refl in
      let none : (from : ℕ) → Opened toks from (suc k) → from < k → ⊥ = λ from o lt. never (s.all_open from (opened_before from k o lt)) in
      record {
        idle = λ h. absurd (never_false h);
        busy = λ h. record {
          from = k;
          opened = record { begins = b.0; outside = b.1; later = omega arith; none = λ j l g. absurd (omega (arith, l, g)) };
          declared = λ name h. absurd (nothing_among name (subst (λ (l : List Tok). is_among name (map (word_of text) l) ≡ true) (s.idle refl) h));
        };
        all_open = λ from o. refl;
        all_coming = λ from name o h. absurd (none from o (let l = h.behind in let w = h.within in omega (arith, l, w)));
        known_are = λ name h. named_later k name (s.known_are name h);
        all_known = λ name h. ⊎_elim (λ lt. s.all_known name (named_before k name h lt)) (λ is. absurd (never (s.all_open h.from (subst (λ i. Opened toks h.from i) is (under_way h.from h.to h.typedef))))) (last h.to k h.before);
      }

  -- one ends, and its names stand
  ends_one : (k : ℕ) (coming : List Tok) (known : List (List ℕ)) (t : Tok) (b d : Bool) → Token k known t b true d → Standing text toks k true coming known → Standing text toks (suc k) false [] (with_names text coming known)
  ends_one k coming known t b d at s =
      let none : (from : ℕ) → Opened toks from (suc k) → ⊥ = λ from o. none_open from k at.apart at.ends o in
      let here : OpenedWith text toks k coming = s.busy refl in
      record {
        idle = λ h. refl;
        busy = λ h. absurd (never h);
        all_open = λ from o. absurd (none from o);
        all_coming = λ from name o h. absurd (none from o);
        known_are = λ name h. ⊎_elim (λ e. named_later k name (s.known_are name e)) (λ e. named here.from k (suc k) name (ended here.from k here.opened at.within at.ends) (omega arith) (here.declared name e)) (put_are text coming known name h);
        all_known = λ name h. ⊎_elim (λ lt. put_keeps text coming known name (s.all_known name (named_before k name h lt)))
            (λ is. ⊎_elim (λ e. put_all text coming known name e) (λ e. put_keeps text coming known name e)
            (s.all_coming h.from name (subst (λ i. Opened toks h.from i) is (under_way h.from h.to h.typedef)) (subst (λ i. Declared text toks h.from i name) is (declared_in (suc k) name h))))
            (last h.to k h.before);
      }

  -- one goes on: with no name more, or with one
  goes_on : (k : ℕ) (coming more : List Tok) (known : List (List ℕ)) (t : Tok) (b d : Bool) → Token k known t b false d → Standing text toks k true coming known
      → ((from : ℕ) → Opened toks from k → (name : List ℕ) → is_among name (map (word_of text) more) ≡ true → (is_among name (map (word_of text) coming) ≡ true) ⊎ Declared text toks from (suc k) name)
      → ((name : List ℕ) → is_among name (map (word_of text) coming) ≡ true → is_among name (map (word_of text) more) ≡ true)
      → ((name : List ℕ) → d ≡ true → bytes_eq name (word_of text t) ≡ true → is_among name (map (word_of text) more) ≡ true)
      → Standing text toks (suc k) true more known
  goes_on k coming more known t b d at s are kept new =
      let here : OpenedWith text toks k coming = s.busy refl in
      record {
        idle = λ h. absurd (never_false h);
        busy = λ h. record {
          from = here.from;
          opened = opened_later here.from k here.opened at.ends;
          declared = λ name g. ⊎_elim (λ e. declared_later here.from k name (here.declared name e)) (λ e. e) (are here.from here.opened name g);
        };
        all_open = λ from o. refl;
        all_coming = λ from name o h. ⊎_elim
            (λ lt. ⊎_elim (λ e. inl (kept name e)) (λ e. inr e) (s.all_coming from name (opened_before from k o (let l = h.behind in omega (arith, l, lt))) (declared_before from k name h lt)))
            (λ is. ⊎_elim (λ e. inr e) (λ e. inl (new name e.0 e.1)) (at.all_declare from name h is))
            (last h.place k h.within);
        known_are = λ name h. named_later k name (s.known_are name h);
        all_known = λ name h. ⊎_elim (λ lt. s.all_known name (named_before k name h lt))
            (λ is. absurd (one_of (ends_at toks k) (subst (λ i. ends_at toks i ≡ true) is h.typedef.ends) at.ends))
            (last h.to k h.before);
      }

  -- all together
  pub stands_on : (k : ℕ) (i b e d : Bool) (coming : List Tok) (known : List (List ℕ)) (t : Tok) → Token k known t b e d → Standing text toks k i coming known
      → Standing text toks (suc k) ((i || b) && not (i && e)) (if i && e then [] else if i && d then coming ++ t ∷ [] else coming) (if i && e then with_names text coming known else known)
  stands_on k false false e d coming known t at s = stays_idle k coming known t e d at s
  stands_on k false true e d coming known t at s = begins_one k coming known t e d at s
  stands_on k true b true d coming known t at s = ends_one k coming known t b d at s
  stands_on k true b false true coming known t at s =
      goes_on k coming (coming ++ t ∷ []) known t b true at s
      (λ from o name h. ⊎_elim (λ e. inl e) (λ e. inr (subst (λ n. Declared text toks from (suc k) n) (sym ((bytes_eq-Decides name (word_of text t)).0 e)) (at.declares refl from o.later))) (word_last text coming t name h))
      (λ name h. first_words text coming t name h)
      (λ name h e. last_word text coming t name e)
  stands_on k true b false false coming known t at s =
      goes_on k coming coming known t b false at s (λ from o name h. inl h) (λ name h. h) (λ name h e. absurd (never h))

  pub nothing_stands : Standing text toks 0 false [] []
  nothing_stands = record {
    idle = λ h. refl;
    busy = λ h. absurd (never h);
    all_open = λ from o. absurd (let l = o.later in omega (arith, l));
    all_coming = λ from name o h. absurd (let l = o.later in omega (arith, l));
    known_are = λ name h. absurd (nothing_among name h);
    all_known = λ name h. absurd (let l = h.before in omega (arith, l));
  }
