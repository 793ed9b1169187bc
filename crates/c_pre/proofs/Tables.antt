-- Looking a name up in a table that grew, and in a front of one.
use Rattle.std.proofs.Common.{ℕ, zero, suc, ◌+◌, ◌<◌, ◌≤◌, ◌≡◌, Bool, true, false, cond, Option, Some, None, List, [], ◌∷◌, ◌++◌, length, take, arith, ap, ap₂, refl, sym, ◌∙◌, nat_lt, IfSome, subst}
use Rattle.std.proofs.lemmas.Bool.{lt-ltb, le-ltb}
use Rattle.std.proofs.lemmas.List.{length-map}
use Rattle.std.specs.List.{position_from}
use Rattle.std.specs.Str.{bytes_eq}
use Rattle.std.specs.Cmp.Lexicographic.{bytes_decides}
use Rattle.c_token.specs.declared.token.Tok.{Tok}
use Rattle.c_pre.specs.declared.directive.Definition.{Definition}
use Rattle.c_pre.specs.Directive.{Table, position_of, table_of, entry_of}
use Rattle.c_pre.specs.Items.{or_else}
use Rattle.c_pre.proofs.Defining.{table_more}

chosen : (b : Bool) (i : ℕ) (r s later : Option ℕ) → r ≡ or_else s later → cond b (Some i) r ≡ or_else (cond b (Some i) s) later
chosen true i r s later e = refl
chosen false i r s later e = e

position_behind : {A : Type 0} (p : A → Bool) (i : ℕ) (xs : List A) (x : A) → position_from p i (xs ++ x ∷ []) ≡ or_else (position_from p i xs) (cond (p x) (Some (i + length xs)) None)
position_behind p i [] x = ap (λ k. cond (p x) (Some k) None) (let s : i ≡ i + 0 = omega arith in s)
position_behind p i (y ∷ ys) x =
    chosen (p y) i (position_from p (i + 1) (ys ++ x ∷ [])) (position_from p (i + 1) ys) (cond (p x) (Some (i + suc (length ys))) None)
    (position_behind p (i + 1) ys x ∙ ap (λ k. or_else (position_from p (i + 1) ys) (cond (p x) (Some k) None)) (let s : i + 1 + length ys ≡ i + suc (length ys) = omega arith in s))

-- what the word has in the table with the name behind it
grown : (table : Table) (name word : List ℕ) (b : Bool) → bytes_eq name word ≡ b → position_of table name ≡ None → or_else (position_of table word) (cond b (Some (length table)) None) ≡ cond b (Some (length table)) (position_of table word)
grown table name word true e n =
    ap (λ o. or_else o (Some (length table))) (ap (position_of table) (sym ((bytes_decides name word).0 e)) ∙ n)
grown table name word false e n = or_none (position_of table word)
  where
    or_none : (o : Option ℕ) → or_else o None ≡ o
    or_none None = refl
    or_none (Some k) = refl

-- a new name at the end: its place is the length
position_grows : (table : Table) (name word : List ℕ) (list : List Tok) → position_of table name ≡ None → position_of (table ++ (name, list) ∷ []) word ≡ cond (bytes_eq name word) (Some (length table)) (position_of table word)
unfolding position_of
position_grows table name word list n =
    position_behind (λ e. bytes_eq e.0 word) 0 table (name, list)
    ∙ ap (λ k. or_else (position_of table word) (cond (bytes_eq name word) (Some k) None)) (let s : 0 + length table ≡ length table = omega arith in s)
    ∙ grown table name word (bytes_eq name word) refl n

-- the places after a definition of a new name
pub still_indexed : (ds new : List Definition) (d : Definition) (place : ℕ) (word : List ℕ) (old later : Option ℕ) → position_of (table_of ds) d.name.now ≡ None → new ≡ ds ++ d ∷ [] → place ≡ length ds → old ≡ position_of (table_of ds) word → later ≡ cond (bytes_eq d.name.now word) (Some place) old → later ≡ position_of (table_of new) word
still_indexed ds new d place word old later n e p o l =
    l ∙ ap₂ (λ k r. cond (bytes_eq d.name.now word) (Some k) r) (p ∙ sym (length-map ds entry_of)) o
    ∙ sym (ap (λ (xs : List Definition). position_of (table_of xs) word) e ∙ ap (λ t. position_of t word) (table_more ds d) ∙ position_grows (table_of ds) d.name.now word d.list.now n)

-- a place below n
abbrev pub within : ℕ → Option ℕ → Option ℕ
within n None = None
within n (Some k) = cond (nat_lt k n) (Some k) None

none_chosen : (b : Bool) (i n : ℕ) (o : Option ℕ) → n ≤ i → None ≡ within n o → None ≡ within n (cond b (Some i) o)
none_chosen true i n o h e = sym (ap (λ b. cond b (Some i) None) (le-ltb i n h))
none_chosen false i n o h e = e

none_below : {A : Type 0} (p : A → Bool) (i n : ℕ) (xs : List A) → n ≤ i → None ≡ within n (position_from p i xs)
none_below p i n [] h = refl
none_below p i n (x ∷ xs) h = none_chosen (p x) i n (position_from p (i + 1) xs) h (none_below p (i + 1) n xs (omega arith))

front_chosen : (b : Bool) (i n : ℕ) (r o : Option ℕ) → i < n → r ≡ within n o → cond b (Some i) r ≡ within n (cond b (Some i) o)
front_chosen true i n r o h e = sym (ap (λ b. cond b (Some i) None) (lt-ltb i n h))
front_chosen false i n r o h e = e

position_front : {A : Type 0} (p : A → Bool) (i k : ℕ) (xs : List A) → position_from p i (take k xs) ≡ within (i + length (take k xs)) (position_from p i xs)
position_front p i zero xs = none_below p i (i + 0) xs (omega arith)
position_front p i (suc k) [] = refl
position_front p i (suc k) (x ∷ xs) =
    front_chosen (p x) i (i + suc (length (take k xs))) (position_from p (i + 1) (take k xs)) (position_from p (i + 1) xs) (omega arith)
    (position_front p (i + 1) k xs ∙ ap (λ n. within n (position_from p (i + 1) xs)) (let s : i + 1 + length (take k xs) ≡ i + suc (length (take k xs)) = omega arith in s))

-- In a front of a table a name has the place that it has in the whole, if that is in the front.
pub front_place : (table : Table) (k : ℕ) (word : List ℕ) → position_of (take k table) word ≡ within (length (take k table)) (position_of table word)
unfolding position_of
front_place table k word =
    position_front (λ e. bytes_eq e.0 word) 0 k table ∙ ap (λ n. within n (position_of table word)) (let s : 0 + length (take k table) ≡ length (take k table) = omega arith in s)

bound_chosen : (b : Bool) (i n : ℕ) (o : Option ℕ) → i < n → IfSome o (λ k. k < n) → IfSome (cond b (Some i) o) (λ k. k < n)
bound_chosen true i n o h e = h
bound_chosen false i n o h e = e

position_bound : {A : Type 0} (p : A → Bool) (i n : ℕ) (xs : List A) → i + length xs ≤ n → IfSome (position_from p i xs) (λ k. k < n)
position_bound p i n [] h = tt
position_bound p i n (x ∷ xs) h = bound_chosen (p x) i n (position_from p (i + 1) xs) (omega arith) (position_bound p (i + 1) n xs (omega arith))

pub place_bound : (ds : List Definition) (word : List ℕ) (o : Option ℕ) → o ≡ position_of (table_of ds) word → IfSome o (λ k. k < length ds)
unfolding position_of
place_bound ds word o e =
    subst (λ r. IfSome r (λ k. k < length ds)) (sym e)
    (position_bound (λ e. bytes_eq e.0 word) 0 (length ds) (table_of ds) (omega (arith, length-map ds entry_of)))

-- no name has a place in an empty table
pub nowhere : (word : List ℕ) → None ≡ position_of [] word
unfolding position_of
nowhere word = refl
