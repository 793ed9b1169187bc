-- What a map has under a name: the words of its crate are those of the rules.
use Rattle.std.proofs.Common.{◌≡◌, ℕ, suc, ◌+◌, Bool, true, false, cond, bytes_eq, if◌then◌else◌, List, [], ◌∷◌, map, position, Option, Some, None, is_some, option_map, refl, sym, ap, ap₂, ◌∙◌, true≢false, arith}
use Rattle.std.specs.Cmp.Lexicographic.{bytes_decides, nat_list_eq_equiv}
use Rattle.std.specs.Map.{keys_of, lookup}
use Rattle.std.specs.List.{position_from}
use Rattle.std.proofs.lemmas.Iterator.Adapters.{position_from-zero}
use Rattle.indexmap.specs.IndexMap.{insert_entry}
use Rattle.type_rules.specs.Names.{entry_of, with_entry}
use Rattle.type_rules.specs.Places.{member_from}
use Rattle.type_rules.specs.Declarations.{definition_from}
use Rattle.type_rules.specs.Known.{Field}

turned : (xs ys : List ℕ) → bytes_eq xs ys ≡ bytes_eq ys xs
turned xs ys = nat_list_eq_equiv.symm xs ys

module _ {K V B : Type 0} (text : K → List ℕ) (view : V → B) where
  -- the entries by their names
  abbrev pub named : List (K × V) → List (List ℕ × B)
  named es = map (λ e. (text e.0, view e.1)) es

  chosen : (b c : Bool) (x : V) (r : Option V) (s : Option B) → b ≡ c → option_map view r ≡ s → option_map view (cond b (Some x) r) ≡ (if c then Some (view x) else s)
  chosen true true x r s e h = refl
  chosen false false x r s e h = h
  chosen true false x r s e h = absurd (true≢false e)
  chosen false true x r s e h = absurd (true≢false (sym e))

  -- what `get` finds
  pub entry_found : (es : List (K × V)) (name : List ℕ) → option_map view (lookup (λ k. bytes_eq name (text k)) es) ≡ entry_of (named es) name
  entry_found [] name = refl
  entry_found (e ∷ es) name = chosen (bytes_eq name (text e.0)) (bytes_eq (text e.0) name) e.1 (lookup (λ k. bytes_eq name (text k)) es) (entry_of (named es) name) (turned name (text e.0)) (entry_found es name)

  is_seen : (r : Option V) → is_some r ≡ is_some (option_map view r)
  is_seen None = refl
  is_seen (Some x) = refl

  -- whether there is one
  pub entry_there : (es : List (K × V)) (name : List ℕ) → is_some (lookup (λ k. bytes_eq name (text k)) es) ≡ is_some (entry_of (named es) name)
  entry_there es name = is_seen (lookup (λ k. bytes_eq name (text k)) es) ∙ ap is_some (entry_found es name)

  put : (b c : Bool) (e : K × V) (k : K) (v : V) (es rest : List (K × V)) (others : List (List ℕ × B)) → b ≡ c → (c ≡ true → text e.0 ≡ text k) → named rest ≡ others
      → named (if b then (e.0, v) ∷ es else e ∷ rest) ≡ (if c then (text k, view v) ∷ named es else (text e.0, view e.1) ∷ others)
  put true true e k v es rest others is same h = λ j. (same refl j, view v) ∷ named es
  put false false e k v es rest others is same h = λ j. (text e.0, view e.1) ∷ h j
  put true false e k v es rest others is same h = absurd (true≢false is)
  put false true e k v es rest others is same h = absurd (true≢false (sym is))

  -- what `insert` leaves
  pub entry_put : (es : List (K × V)) (k : K) (v : V) → named (insert_entry (λ a b. bytes_eq (text a) (text b)) es k v) ≡ with_entry (named es) (text k) (view v)
  entry_put [] k v = refl
  entry_put (e ∷ es) k v =
      put (bytes_eq (text k) (text e.0)) (bytes_eq (text e.0) (text k)) e k v es (insert_entry (λ a b. bytes_eq (text a) (text b)) es k v) (with_entry (named es) (text k) (view v))
      (turned (text k) (text e.0)) (λ t. (bytes_decides (text e.0) (text k)).0 t) (entry_put es k v)

module _ {K : Type 0} (text : K → List ℕ) where
  -- what `get_index_of` of a set finds
  first_from : (ks : List K) (name : List ℕ) (n : ℕ) → position_from (λ k. bytes_eq name (text k)) n ks ≡ definition_from (map text ks) name n
  first_from [] name n = refl
  first_from (k ∷ ks) name n =
      let next : n + 1 ≡ suc n = omega arith in
      ap₂ (λ (b : Bool) (r : Option ℕ). cond b (Some n) r) (turned name (text k)) (ap (λ m. position_from (λ k. bytes_eq name (text k)) m ks) next ∙ first_from ks name (suc n))

  pub definition_found : (ks : List K) (name : List ℕ) → position (λ k. bytes_eq name (text k)) ks ≡ definition_from (map text ks) name 0
  definition_found ks name = position_from-zero (λ k. bytes_eq name (text k)) ks ∙ first_from ks name 0

-- an index and a value, where there are both
abbrev pub both_of : {V B : Type 0} → (V → B) → Option ℕ → Option V → Option (ℕ × B)
both_of view None value = None
both_of view (Some i) None = None
both_of view (Some i) (Some v) = Some (i, view v)

module _ {K V : Type 0} (text : K → List ℕ) (view : V → Field) where
  chosen_member : (b c : Bool) (n : ℕ) (v : V) (i : Option ℕ) (r : Option V) (s : Option (ℕ × Field)) → b ≡ c → both_of view i r ≡ s
      → both_of view (cond b (Some n) i) (cond b (Some v) r) ≡ (if c then Some (n, view v) else s)
  chosen_member true true n v i r s e h = refl
  chosen_member false false n v i r s e h = h
  chosen_member true false n v i r s e h = absurd (true≢false e)
  chosen_member false true n v i r s e h = absurd (true≢false (sym e))

  member_at : (es : List (K × V)) (name : List ℕ) (n : ℕ)
      → both_of view (position_from (λ k. bytes_eq name (text k)) n (keys_of es)) (lookup (λ k. bytes_eq name (text k)) es) ≡ member_from (named text view es) name n
  member_at [] name n = refl
  member_at (e ∷ es) name n =
      let next : n + 1 ≡ suc n = omega arith in
      chosen_member (bytes_eq name (text e.0)) (bytes_eq (text e.0) name) n e.1 (position_from (λ k. bytes_eq name (text k)) (n + 1) (keys_of es)) (lookup (λ k. bytes_eq name (text k)) es) (member_from (named text view es) name (suc n))
      (turned name (text e.0)) (ap (λ m. both_of view (position_from (λ k. bytes_eq name (text k)) m (keys_of es)) (lookup (λ k. bytes_eq name (text k)) es)) next ∙ member_at es name (suc n))

  -- what `get_full` finds
  pub member_found : (es : List (K × V)) (name : List ℕ) (i : Option ℕ) (v : Option V) → i ≡ position (λ k. bytes_eq name (text k)) (keys_of es) → v ≡ lookup (λ k. bytes_eq name (text k)) es
      → both_of view i v ≡ member_from (named text view es) name 0
  member_found es name i v at is = ap₂ (both_of view) (at ∙ position_from-zero (λ k. bytes_eq name (text k)) (keys_of es)) is ∙ member_at es name 0
