-- What the checker keeps of a list of specifiers is what the rules gather: word by word, and at the end.
use Rattle.std.proofs.Common.{◌≡◌, ℕ, ◌+◌, ◌≤◌, suc, nat_lt, nat_le, nat_eq, Bool, true, false, not, ◌&&◌, ◌||◌, List, [], ◌∷◌, length, Some, None, Ok, Err, refl, sym, ap, ◌∙◌, zero, is_some, arith}
use Rattle.std.proofs.lemmas.Bool.{lt-leb, leb-true, true≢false}
use Rattle.c_token.specs.declared.token.Keyword.{Keyword}
use Rattle.c_token.specs.declared.token.Keyword.TheVariants as words
use Rattle.type_rules.specs.Faults as kind
use Rattle.c_typed.specs.declared.types.Qualified.{Qualified}
use Rattle.c_tables.specs.Answers.{Refuses}
use Rattle.c_tables.specs.Tables.{waiting_of}
use Rattle.c_tables.specs.declared.error.CheckError.{CheckError}
use Rattle.c_tables.specs.declared.scope.Waiting.{Waiting}
use Rattle.c_tables.specs.declared.scope.Waiting.TheVariants as waitings
use Rattle.type_rules.specs.Known as rule_known
use Rattle.type_rules.specs.Known.{Known, given, go_on}
use Rattle.type_rules.specs.Names.{in_file}
use Rattle.type_rules.specs.Rows.{array_of}
use Rattle.type_rules.specs.Specifiers as rule
use Rattle.type_rules.specs.Specifiers.{Gathered, times, has, once_each, single_words, storage_words, is_orderly, qualifies_once, may_stand, specifiers}
use Rattle.c_outline.specs.Gathering as gathering
use Rattle.c_outline.specs.Gathering.{is_plain, is_auto, storage_in, waiting_kept, base_of, first_of, named_of, kept_of, worded, based, base_type, fits}
use Rattle.c_outline.specs.Views.{is_typedef, is_static, is_register, site_of, specified_of}
use Rattle.c_outline.specs.declared.specifiers.Base.{Base}
use Rattle.c_outline.specs.declared.specifiers.Base.TheVariants as bases
use Rattle.c_outline.specs.declared.specifiers.NamedType.{NamedType}
use Rattle.c_outline.specs.declared.specifiers.Site.{Site}
use Rattle.c_outline.specs.declared.specifiers.Site.TheVariants as sites
use Rattle.c_outline.specs.declared.specifiers.Storage.{Storage}
use Rattle.c_outline.specs.declared.specifiers.Storage.TheVariants as storages
use Rattle.c_outline.specs.declared.specifiers.Words.{Words}
use Rattle.c_outline.proofs.Outlining.{refused_through}

-- ---- words on storage: how often each stands, and the last one where there is one at most

data Stored (t s a r : ℕ) (st : Storage) : Type 0 where
  none : t ≡ 0 → s ≡ 0 → a ≡ 0 → r ≡ 0 → st ≡ storages.Plain → Stored t s a r st
  one_typedef : t ≡ 1 → s ≡ 0 → a ≡ 0 → r ≡ 0 → st ≡ storages.Typedef → Stored t s a r st
  one_static : t ≡ 0 → s ≡ 1 → a ≡ 0 → r ≡ 0 → st ≡ storages.Static → Stored t s a r st
  one_auto : t ≡ 0 → s ≡ 0 → a ≡ 1 → r ≡ 0 → st ≡ storages.Auto → Stored t s a r st
  one_register : t ≡ 0 → s ≡ 0 → a ≡ 0 → r ≡ 1 → st ≡ storages.Register → Stored t s a r st
  many : 2 ≤ t + (s + (a + r)) → is_plain st ≡ false → Stored t s a r st

typedef_more : (t s a r : ℕ) (st : Storage) → Stored t s a r st → Stored (suc t) s a r storages.Typedef
typedef_more t s a r st (none d e f g h) = one_typedef (omega (arith, d)) e f g refl
typedef_more t s a r st (one_typedef d e f g h) = many (omega (arith, d)) refl
typedef_more t s a r st (one_static d e f g h) = many (omega (arith, e)) refl
typedef_more t s a r st (one_auto d e f g h) = many (omega (arith, f)) refl
typedef_more t s a r st (one_register d e f g h) = many (omega (arith, g)) refl
typedef_more t s a r st (many h p) = many (omega (arith, h)) refl

static_more : (t s a r : ℕ) (st : Storage) → Stored t s a r st → Stored t (suc s) a r storages.Static
static_more t s a r st (none d e f g h) = one_static d (omega (arith, e)) f g refl
static_more t s a r st (one_typedef d e f g h) = many (omega (arith, d)) refl
static_more t s a r st (one_static d e f g h) = many (omega (arith, e)) refl
static_more t s a r st (one_auto d e f g h) = many (omega (arith, f)) refl
static_more t s a r st (one_register d e f g h) = many (omega (arith, g)) refl
static_more t s a r st (many h p) = many (omega (arith, h)) refl

auto_more : (t s a r : ℕ) (st : Storage) → Stored t s a r st → Stored t s (suc a) r storages.Auto
auto_more t s a r st (none d e f g h) = one_auto d e (omega (arith, f)) g refl
auto_more t s a r st (one_typedef d e f g h) = many (omega (arith, d)) refl
auto_more t s a r st (one_static d e f g h) = many (omega (arith, e)) refl
auto_more t s a r st (one_auto d e f g h) = many (omega (arith, f)) refl
auto_more t s a r st (one_register d e f g h) = many (omega (arith, g)) refl
auto_more t s a r st (many h p) = many (omega (arith, h)) refl

register_more : (t s a r : ℕ) (st : Storage) → Stored t s a r st → Stored t s a (suc r) storages.Register
register_more t s a r st (none d e f g h) = one_register d e f (omega (arith, g)) refl
register_more t s a r st (one_typedef d e f g h) = many (omega (arith, d)) refl
register_more t s a r st (one_static d e f g h) = many (omega (arith, e)) refl
register_more t s a r st (one_auto d e f g h) = many (omega (arith, f)) refl
register_more t s a r st (one_register d e f g h) = many (omega (arith, g)) refl
register_more t s a r st (many h p) = many (omega (arith, h)) refl

stored : (ws : List Keyword) → Stored (times words.Typedef ws) (times words.Static ws) (times words.Auto ws) (times words.Register ws) (storage_in ws)
stored [] = none refl refl refl refl refl
stored (words.Auto ∷ ws) = auto_more (times words.Typedef ws) (times words.Static ws) (times words.Auto ws) (times words.Register ws) (storage_in ws) (stored ws)
stored (words.Break ∷ ws) = stored ws
stored (words.Case ∷ ws) = stored ws
stored (words.Char ∷ ws) = stored ws
stored (words.Const ∷ ws) = stored ws
stored (words.Continue ∷ ws) = stored ws
stored (words.Default ∷ ws) = stored ws
stored (words.Do ∷ ws) = stored ws
stored (words.Else ∷ ws) = stored ws
stored (words.Enum ∷ ws) = stored ws
stored (words.For ∷ ws) = stored ws
stored (words.If ∷ ws) = stored ws
stored (words.Int ∷ ws) = stored ws
stored (words.Interrupt ∷ ws) = stored ws
stored (words.Long ∷ ws) = stored ws
stored (words.Register ∷ ws) = register_more (times words.Typedef ws) (times words.Static ws) (times words.Auto ws) (times words.Register ws) (storage_in ws) (stored ws)
stored (words.Return ∷ ws) = stored ws
stored (words.Short ∷ ws) = stored ws
stored (words.Signed ∷ ws) = stored ws
stored (words.Sizeof ∷ ws) = stored ws
stored (words.Static ∷ ws) = static_more (times words.Typedef ws) (times words.Static ws) (times words.Auto ws) (times words.Register ws) (storage_in ws) (stored ws)
stored (words.Struct ∷ ws) = stored ws
stored (words.Switch ∷ ws) = stored ws
stored (words.Typedef ∷ ws) = typedef_more (times words.Typedef ws) (times words.Static ws) (times words.Auto ws) (times words.Register ws) (storage_in ws) (stored ws)
stored (words.Unsigned ∷ ws) = stored ws
stored (words.Void ∷ ws) = stored ws
stored (words.Volatile ∷ ws) = stored ws
stored (words.While ∷ ws) = stored ws

-- there is a word on storage exactly where one is kept
stored_said : (t s a r : ℕ) (st : Storage) → Stored t s a r st → not (is_plain st) ≡ nat_lt 0 (t + (s + (a + r)))
stored_said t s a r st (none d e f g h) = rw (d, e, f, g, h)
stored_said t s a r st (one_typedef d e f g h) = rw (d, e, f, g, h)
stored_said t s a r st (one_static d e f g h) = rw (d, e, f, g, h)
stored_said t s a r st (one_auto d e f g h) = rw (d, e, f, g, h)
stored_said t s a r st (one_register d e f g h) = rw (d, e, f, g, h)
stored_said t s a r st (many h p) = rw (p, positive (t + (s + (a + r))) (omega (arith, h))) refl where
  positive : (n : ℕ) → 1 ≤ n → nat_lt 0 n ≡ true
  positive n h = grind arith

-- where there is one at most, it is the one that is kept
stored_one : (t s a r : ℕ) (st : Storage) → Stored t s a r st → nat_le (t + (s + (a + r))) 1 ≡ true → (is_typedef st ≡ nat_lt 0 t) × (is_static st ≡ nat_lt 0 s) × (is_register st ≡ nat_lt 0 r)
stored_one t s a r st (none d e f g h) le = rw (d, e, g, h) (refl, refl, refl)
stored_one t s a r st (one_typedef d e f g h) le = rw (d, e, g, h) (refl, refl, refl)
stored_one t s a r st (one_static d e f g h) le = rw (d, e, g, h) (refl, refl, refl)
stored_one t s a r st (one_auto d e f g h) le = rw (d, e, g, h) (refl, refl, refl)
stored_one t s a r st (one_register d e f g h) le = rw (d, e, g, h) (refl, refl, refl)
stored_one t s a r st (many h p) le = absurd (let l = leb-true (t + (s + (a + r))) 1 le in omega arith)

-- ---- a word more

one_more : (n : ℕ) → true ≡ nat_lt 0 (suc n)
one_more n = grind arith

-- what a word more makes of a test that stands among others
or_true : (b : Bool) → true ≡ b || true
or_true true = refl
or_true false = refl

twice : (x y z c : Bool) → x ≡ false → z ≡ true → not (x && c) ≡ not (y && c) || z
twice x y z c e f = rw (e, f) (or_true (not (y && c)))

last_false : (b : Bool) → b ≡ b || false
last_false true = refl
last_false false = refl

once_more : (n m : ℕ) (c : Bool) → m ≡ suc n → not (nat_le m 1 && c) ≡ not (nat_le n 1 && c) || nat_lt 0 n
once_more zero m c e = rw e (last_false (not c))
once_more (suc n) m c e = rw e (twice (nat_le (suc (suc n)) 1) (nat_le (suc n) 1) (nat_lt 0 (suc n)) c (lt-leb (suc (suc n)) 1 (omega arith)) (sym (one_more n)))

behind_one : (a x y p : Bool) → not x ≡ not y || p → not (a && x) ≡ not (a && y) || p
behind_one true x y p h = h
behind_one false x y p h = refl

before_one : (x y c p : Bool) → not x ≡ not y || p → not (x && c) ≡ not (y && c) || p
before_one true true true p h = h
before_one true false true p h = h
before_one false true true p h = h
before_one false false true p h = h
before_one true true false p h = refl
before_one true false false p h = refl
before_one false true false p h = refl
before_one false false false p h = refl

bad_void : (ws : List Keyword) (c : Bool) → not (once_each (words.Void ∷ ws) single_words && c) ≡ not (once_each ws single_words && c) || has ws words.Void
bad_void ws c = before_one (once_each (words.Void ∷ ws) single_words) (once_each ws single_words) c (has ws words.Void) (once_more (times words.Void ws) (times words.Void (words.Void ∷ ws)) (nat_le (times words.Char ws) 1 && (nat_le (times words.Short ws) 1 && (nat_le (times words.Int ws) 1 && (nat_le (times words.Long ws) 1 && (nat_le (times words.Signed ws) 1 && (nat_le (times words.Unsigned ws) 1 && (nat_le (times words.Const ws) 1 && (nat_le (times words.Volatile ws) 1 && true)))))))) refl)

bad_char : (ws : List Keyword) (c : Bool) → not (once_each (words.Char ∷ ws) single_words && c) ≡ not (once_each ws single_words && c) || has ws words.Char
bad_char ws c = before_one (once_each (words.Char ∷ ws) single_words) (once_each ws single_words) c (has ws words.Char) (behind_one (nat_le (times words.Void ws) 1) _ _ _ (once_more (times words.Char ws) (times words.Char (words.Char ∷ ws)) (nat_le (times words.Short ws) 1 && (nat_le (times words.Int ws) 1 && (nat_le (times words.Long ws) 1 && (nat_le (times words.Signed ws) 1 && (nat_le (times words.Unsigned ws) 1 && (nat_le (times words.Const ws) 1 && (nat_le (times words.Volatile ws) 1 && true))))))) refl))

bad_short : (ws : List Keyword) (c : Bool) → not (once_each (words.Short ∷ ws) single_words && c) ≡ not (once_each ws single_words && c) || has ws words.Short
bad_short ws c = before_one (once_each (words.Short ∷ ws) single_words) (once_each ws single_words) c (has ws words.Short) (behind_one (nat_le (times words.Void ws) 1) _ _ _ (behind_one (nat_le (times words.Char ws) 1) _ _ _ (once_more (times words.Short ws) (times words.Short (words.Short ∷ ws)) (nat_le (times words.Int ws) 1 && (nat_le (times words.Long ws) 1 && (nat_le (times words.Signed ws) 1 && (nat_le (times words.Unsigned ws) 1 && (nat_le (times words.Const ws) 1 && (nat_le (times words.Volatile ws) 1 && true)))))) refl)))

bad_int : (ws : List Keyword) (c : Bool) → not (once_each (words.Int ∷ ws) single_words && c) ≡ not (once_each ws single_words && c) || has ws words.Int
bad_int ws c = before_one (once_each (words.Int ∷ ws) single_words) (once_each ws single_words) c (has ws words.Int) (behind_one (nat_le (times words.Void ws) 1) _ _ _ (behind_one (nat_le (times words.Char ws) 1) _ _ _ (behind_one (nat_le (times words.Short ws) 1) _ _ _ (once_more (times words.Int ws) (times words.Int (words.Int ∷ ws)) (nat_le (times words.Long ws) 1 && (nat_le (times words.Signed ws) 1 && (nat_le (times words.Unsigned ws) 1 && (nat_le (times words.Const ws) 1 && (nat_le (times words.Volatile ws) 1 && true))))) refl))))

bad_long : (ws : List Keyword) (c : Bool) → not (once_each (words.Long ∷ ws) single_words && c) ≡ not (once_each ws single_words && c) || has ws words.Long
bad_long ws c = before_one (once_each (words.Long ∷ ws) single_words) (once_each ws single_words) c (has ws words.Long) (behind_one (nat_le (times words.Void ws) 1) _ _ _ (behind_one (nat_le (times words.Char ws) 1) _ _ _ (behind_one (nat_le (times words.Short ws) 1) _ _ _ (behind_one (nat_le (times words.Int ws) 1) _ _ _ (once_more (times words.Long ws) (times words.Long (words.Long ∷ ws)) (nat_le (times words.Signed ws) 1 && (nat_le (times words.Unsigned ws) 1 && (nat_le (times words.Const ws) 1 && (nat_le (times words.Volatile ws) 1 && true)))) refl)))))

bad_signed : (ws : List Keyword) (c : Bool) → not (once_each (words.Signed ∷ ws) single_words && c) ≡ not (once_each ws single_words && c) || has ws words.Signed
bad_signed ws c = before_one (once_each (words.Signed ∷ ws) single_words) (once_each ws single_words) c (has ws words.Signed) (behind_one (nat_le (times words.Void ws) 1) _ _ _ (behind_one (nat_le (times words.Char ws) 1) _ _ _ (behind_one (nat_le (times words.Short ws) 1) _ _ _ (behind_one (nat_le (times words.Int ws) 1) _ _ _ (behind_one (nat_le (times words.Long ws) 1) _ _ _ (once_more (times words.Signed ws) (times words.Signed (words.Signed ∷ ws)) (nat_le (times words.Unsigned ws) 1 && (nat_le (times words.Const ws) 1 && (nat_le (times words.Volatile ws) 1 && true))) refl))))))

bad_unsigned : (ws : List Keyword) (c : Bool) → not (once_each (words.Unsigned ∷ ws) single_words && c) ≡ not (once_each ws single_words && c) || has ws words.Unsigned
bad_unsigned ws c = before_one (once_each (words.Unsigned ∷ ws) single_words) (once_each ws single_words) c (has ws words.Unsigned) (behind_one (nat_le (times words.Void ws) 1) _ _ _ (behind_one (nat_le (times words.Char ws) 1) _ _ _ (behind_one (nat_le (times words.Short ws) 1) _ _ _ (behind_one (nat_le (times words.Int ws) 1) _ _ _ (behind_one (nat_le (times words.Long ws) 1) _ _ _ (behind_one (nat_le (times words.Signed ws) 1) _ _ _ (once_more (times words.Unsigned ws) (times words.Unsigned (words.Unsigned ∷ ws)) (nat_le (times words.Const ws) 1 && (nat_le (times words.Volatile ws) 1 && true)) refl)))))))

bad_const : (ws : List Keyword) (c : Bool) → not (once_each (words.Const ∷ ws) single_words && c) ≡ not (once_each ws single_words && c) || has ws words.Const
bad_const ws c = before_one (once_each (words.Const ∷ ws) single_words) (once_each ws single_words) c (has ws words.Const) (behind_one (nat_le (times words.Void ws) 1) _ _ _ (behind_one (nat_le (times words.Char ws) 1) _ _ _ (behind_one (nat_le (times words.Short ws) 1) _ _ _ (behind_one (nat_le (times words.Int ws) 1) _ _ _ (behind_one (nat_le (times words.Long ws) 1) _ _ _ (behind_one (nat_le (times words.Signed ws) 1) _ _ _ (behind_one (nat_le (times words.Unsigned ws) 1) _ _ _ (once_more (times words.Const ws) (times words.Const (words.Const ∷ ws)) (nat_le (times words.Volatile ws) 1 && true) refl))))))))

bad_volatile : (ws : List Keyword) (c : Bool) → not (once_each (words.Volatile ∷ ws) single_words && c) ≡ not (once_each ws single_words && c) || has ws words.Volatile
bad_volatile ws c = before_one (once_each (words.Volatile ∷ ws) single_words) (once_each ws single_words) c (has ws words.Volatile) (behind_one (nat_le (times words.Void ws) 1) _ _ _ (behind_one (nat_le (times words.Char ws) 1) _ _ _ (behind_one (nat_le (times words.Short ws) 1) _ _ _ (behind_one (nat_le (times words.Int ws) 1) _ _ _ (behind_one (nat_le (times words.Long ws) 1) _ _ _ (behind_one (nat_le (times words.Signed ws) 1) _ _ _ (behind_one (nat_le (times words.Unsigned ws) 1) _ _ _ (behind_one (nat_le (times words.Const ws) 1) _ _ _ (once_more (times words.Volatile ws) (times words.Volatile (words.Volatile ∷ ws)) (true) refl)))))))))

bad_stored : (n m : ℕ) (o l p : Bool) → m ≡ suc n → p ≡ nat_lt 0 n → not (o && (nat_le m 1 && l)) ≡ not (o && (nat_le n 1 && l)) || p
bad_stored n m o l p e f = rw f (behind_one o _ _ (nat_lt 0 n) (once_more n m l e))

abbrev orders : Gathered → Bool
orders g = nat_le (storage_words g.words) 1 && nat_le (length g.bases) 1

put : {A B : Type 0} (f : A → Bool → B) (x : A) (y : A) (b c : Bool) → x ≡ y → c ≡ b → f x b ≡ f y c
put f x y b c p q = rw (p, q)

said_before : (ws : List Keyword) → not (is_plain (storage_in ws)) ≡ nat_lt 0 (storage_words ws)
said_before ws = stored_said (times words.Typedef ws) (times words.Static ws) (times words.Auto ws) (times words.Register ws) (storage_in ws) (stored ws)

-- A word more, seen by what is kept.
pub kept_word : (k : Keyword) (g : Gathered) → worded k (kept_of g) ≡ kept_of (record g { words = k ∷ g.words })
kept_word words.Auto g = put (λ (f : Storage) (b : Bool). record (kept_of g) { storage = f; bad = b }) storages.Auto storages.Auto _ _ refl (bad_stored (storage_words g.words) (storage_words (words.Auto ∷ g.words)) (once_each g.words single_words) (nat_le (length g.bases) 1) (not (is_plain (storage_in g.words))) (omega arith) (said_before g.words))
kept_word words.Break g = put (λ (f : Bool) (b : Bool). record (kept_of g) { void = f; bad = b }) _ _ _ _ refl (last_false (not (is_orderly g)))
kept_word words.Case g = put (λ (f : Bool) (b : Bool). record (kept_of g) { void = f; bad = b }) _ _ _ _ refl (last_false (not (is_orderly g)))
kept_word words.Char g = put (λ (f : Bool) (b : Bool). record (kept_of g) { char = f; bad = b }) true _ _ _ (one_more (times words.Char g.words)) (bad_char g.words (orders g))
kept_word words.Const g = put (λ (f : Bool) (b : Bool). record (kept_of g) { constant = f; bad = b }) true _ _ _ (one_more (times words.Const g.words)) (bad_const g.words (orders g))
kept_word words.Continue g = put (λ (f : Bool) (b : Bool). record (kept_of g) { void = f; bad = b }) _ _ _ _ refl (last_false (not (is_orderly g)))
kept_word words.Default g = put (λ (f : Bool) (b : Bool). record (kept_of g) { void = f; bad = b }) _ _ _ _ refl (last_false (not (is_orderly g)))
kept_word words.Do g = put (λ (f : Bool) (b : Bool). record (kept_of g) { void = f; bad = b }) _ _ _ _ refl (last_false (not (is_orderly g)))
kept_word words.Else g = put (λ (f : Bool) (b : Bool). record (kept_of g) { void = f; bad = b }) _ _ _ _ refl (last_false (not (is_orderly g)))
kept_word words.Enum g = put (λ (f : Bool) (b : Bool). record (kept_of g) { void = f; bad = b }) _ _ _ _ refl (last_false (not (is_orderly g)))
kept_word words.For g = put (λ (f : Bool) (b : Bool). record (kept_of g) { void = f; bad = b }) _ _ _ _ refl (last_false (not (is_orderly g)))
kept_word words.If g = put (λ (f : Bool) (b : Bool). record (kept_of g) { void = f; bad = b }) _ _ _ _ refl (last_false (not (is_orderly g)))
kept_word words.Int g = put (λ (f : Bool) (b : Bool). record (kept_of g) { int = f; bad = b }) true _ _ _ (one_more (times words.Int g.words)) (bad_int g.words (orders g))
kept_word words.Interrupt g = put (λ (f : Bool) (b : Bool). record (kept_of g) { interrupt = f; bad = b }) true _ _ _ (one_more (times words.Interrupt g.words)) (last_false (not (is_orderly g)))
kept_word words.Long g = put (λ (f : Bool) (b : Bool). record (kept_of g) { long = f; bad = b }) true _ _ _ (one_more (times words.Long g.words)) (bad_long g.words (orders g))
kept_word words.Register g = put (λ (f : Storage) (b : Bool). record (kept_of g) { storage = f; bad = b }) storages.Register storages.Register _ _ refl (bad_stored (storage_words g.words) (storage_words (words.Register ∷ g.words)) (once_each g.words single_words) (nat_le (length g.bases) 1) (not (is_plain (storage_in g.words))) (omega arith) (said_before g.words))
kept_word words.Return g = put (λ (f : Bool) (b : Bool). record (kept_of g) { void = f; bad = b }) _ _ _ _ refl (last_false (not (is_orderly g)))
kept_word words.Short g = put (λ (f : Bool) (b : Bool). record (kept_of g) { short = f; bad = b }) true _ _ _ (one_more (times words.Short g.words)) (bad_short g.words (orders g))
kept_word words.Signed g = put (λ (f : Bool) (b : Bool). record (kept_of g) { signed = f; bad = b }) true _ _ _ (one_more (times words.Signed g.words)) (bad_signed g.words (orders g))
kept_word words.Sizeof g = put (λ (f : Bool) (b : Bool). record (kept_of g) { void = f; bad = b }) _ _ _ _ refl (last_false (not (is_orderly g)))
kept_word words.Static g = put (λ (f : Storage) (b : Bool). record (kept_of g) { storage = f; bad = b }) storages.Static storages.Static _ _ refl (bad_stored (storage_words g.words) (storage_words (words.Static ∷ g.words)) (once_each g.words single_words) (nat_le (length g.bases) 1) (not (is_plain (storage_in g.words))) (omega arith) (said_before g.words))
kept_word words.Struct g = put (λ (f : Bool) (b : Bool). record (kept_of g) { void = f; bad = b }) _ _ _ _ refl (last_false (not (is_orderly g)))
kept_word words.Switch g = put (λ (f : Bool) (b : Bool). record (kept_of g) { void = f; bad = b }) _ _ _ _ refl (last_false (not (is_orderly g)))
kept_word words.Typedef g = put (λ (f : Storage) (b : Bool). record (kept_of g) { storage = f; bad = b }) storages.Typedef storages.Typedef _ _ refl (bad_stored (storage_words g.words) (storage_words (words.Typedef ∷ g.words)) (once_each g.words single_words) (nat_le (length g.bases) 1) (not (is_plain (storage_in g.words))) (omega arith) (said_before g.words))
kept_word words.Unsigned g = put (λ (f : Bool) (b : Bool). record (kept_of g) { unsigned = f; bad = b }) true _ _ _ (one_more (times words.Unsigned g.words)) (bad_unsigned g.words (orders g))
kept_word words.Void g = put (λ (f : Bool) (b : Bool). record (kept_of g) { void = f; bad = b }) true _ _ _ (one_more (times words.Void g.words)) (bad_void g.words (orders g))
kept_word words.Volatile g = put (λ (f : Bool) (b : Bool). record (kept_of g) { volatile = f; bad = b }) true _ _ _ (one_more (times words.Volatile g.words)) (bad_volatile g.words (orders g))
kept_word words.While g = put (λ (f : Bool) (b : Bool). record (kept_of g) { void = f; bad = b }) _ _ _ _ refl (last_false (not (is_orderly g)))

-- What names a type without a word once more.
bad_base : (base : rule.Base) (bs : List rule.Base) (o s : Bool) → not (o && (s && nat_le (length (base ∷ bs)) 1)) ≡ not (o && (s && nat_le (length bs) 1)) || is_some (first_of bs)
bad_base base [] o s = last_false (not (o && (s && true)))
bad_base base (b ∷ bs) o s = behind_one o _ _ true (behind_one s _ _ true (too_many (length bs))) where
  too_many : (m : ℕ) → not (nat_le (suc (suc m)) 1) ≡ not (nat_le (suc m) 1) || true
  too_many m = rw (lt-leb (suc (suc m)) 1 (omega arith)) (or_true (not (nat_le (suc m) 1)))

kept_back : (w : Waiting) → waiting_kept (waiting_of w) ≡ w
kept_back waitings.Whole = refl
kept_back (waitings.OneArray n) = refl
kept_back (waitings.TwoArrays n m) = refl
kept_back waitings.Never = refl

pub kept_base : (base : Base) (g : Gathered) → based base (kept_of g) ≡ kept_of (rule.with_base (base_of base) g)
kept_base (bases.Structure number) g = put (λ (f : Bool) (b : Bool). record (kept_of g) { base = Some (bases.Structure number); void = f; bad = b }) _ _ _ _ refl (bad_base (rule.StructBase number) g.bases (once_each g.words single_words) (nat_le (storage_words g.words) 1))
kept_base bases.Enumeration g = put (λ (f : Bool) (b : Bool). record (kept_of g) { base = Some bases.Enumeration; void = f; bad = b }) _ _ _ _ refl (bad_base rule.EnumBase g.bases (once_each g.words single_words) (nat_le (storage_words g.words) 1))
kept_base (bases.Named ty waiting) g = ap (λ (w : Waiting). based (bases.Named ty w) (kept_of g)) (sym (kept_back waiting)) ∙ put (λ (f : Bool) (b : Bool). record (kept_of g) { base = Some (bases.Named ty (waiting_kept (waiting_of waiting))); void = f; bad = b }) _ _ _ _ refl (bad_base (rule.NamedBase ty (waiting_of waiting)) g.bases (once_each g.words single_words) (nat_le (storage_words g.words) 1))

-- ---- the end of a list

base_by : (ws : List Keyword) (bs : List rule.Base) → base_type (kept_of (record { words = ws; bases = bs })) (first_of bs) ≡ rule.base_type ws bs
base_by ws [] = refl
base_by ws (rule.StructBase number ∷ bs) = refl
base_by ws (rule.EnumBase ∷ bs) = refl
base_by ws (rule.NamedBase ty rule_known.Whole ∷ bs) = refl
base_by ws (rule.NamedBase ty (rule_known.OneArray n) ∷ bs) = refl
base_by ws (rule.NamedBase ty (rule_known.TwoArrays n m) ∷ bs) = refl
base_by ws (rule.NamedBase ty rule_known.Never ∷ bs) = refl

not_all : (x q m : Bool) → not (x && (q && m)) ≡ not x || (not q || not m)
not_all true true m = refl
not_all true false m = refl
not_all false q m = refl

-- where the words may stand, by how often each stands
abbrev may : Site → ℕ → ℕ → ℕ → ℕ → Bool → Bool → Bool
may sites.File t s a r i f = not (nat_lt 0 a || nat_lt 0 r)
may sites.Block t s a r i f = not (nat_lt 0 t)
may sites.Member t s a r i f = nat_eq (t + (s + (a + r))) 0 && not i
may sites.Param t s a r i f = not (nat_lt 0 t || (nat_lt 0 s || nat_lt 0 a)) && not i
may sites.TypeName t s a r i f = not (nat_lt 0 t || nat_lt 0 s) && (not i && not ((nat_lt 0 a || nat_lt 0 r) && f))

-- the same by what is kept
abbrev may_by : Site → Storage → Bool → Bool → Bool
may_by sites.File st i f = not (is_auto st || is_register st)
may_by sites.Block st i f = not (is_typedef st)
may_by sites.Member st i f = is_plain st && not i
may_by sites.Param st i f = (is_plain st || is_register st) && not i
may_by sites.TypeName st i f = not (is_typedef st || is_static st) && (not i && not ((is_auto st || is_register st) && f))

record Same (site : Site) (i f : Bool) : Type 0 where
  plain : may site 0 0 0 0 i f ≡ may_by site storages.Plain i f
  a_typedef : may site 1 0 0 0 i f ≡ may_by site storages.Typedef i f
  a_static : may site 0 1 0 0 i f ≡ may_by site storages.Static i f
  an_auto : may site 0 0 1 0 i f ≡ may_by site storages.Auto i f
  a_register : may site 0 0 0 1 i f ≡ may_by site storages.Register i f

may_same : (site : Site) (i f : Bool) → Same site i f
may_same sites.File i f = record { plain = refl; a_typedef = refl; a_static = refl; an_auto = refl; a_register = refl }
may_same sites.Block i f = record { plain = refl; a_typedef = refl; a_static = refl; an_auto = refl; a_register = refl }
may_same sites.Member i f = record { plain = refl; a_typedef = refl; a_static = refl; an_auto = refl; a_register = refl }
may_same sites.Param i f = record { plain = refl; a_typedef = refl; a_static = refl; an_auto = refl; a_register = refl }
may_same sites.TypeName i f = record { plain = refl; a_typedef = refl; a_static = refl; an_auto = refl; a_register = refl }

both_false : (o l m x : Bool) → not ((o && (false && l)) && m) ≡ not (o && (false && l)) || x
both_false true l m x = refl
both_false false l m x = refl

stands_by : (site : Site) (t s a r : ℕ) (st : Storage) (o l q i f : Bool) → Stored t s a r st → not ((o && (nat_le (t + (s + (a + r))) 1 && l)) && (q && may site t s a r i f)) ≡ not (o && (nat_le (t + (s + (a + r))) 1 && l)) || (not q || not (may_by site st i f))
stands_by site t s a r st o l q i f (none d e g k h) = rw (d, e, g, k, h, (may_same site i f).plain) (not_all (o && l) q (may_by site storages.Plain i f))
stands_by site t s a r st o l q i f (one_typedef d e g k h) = rw (d, e, g, k, h, (may_same site i f).a_typedef) (not_all (o && l) q (may_by site storages.Typedef i f))
stands_by site t s a r st o l q i f (one_static d e g k h) = rw (d, e, g, k, h, (may_same site i f).a_static) (not_all (o && l) q (may_by site storages.Static i f))
stands_by site t s a r st o l q i f (one_auto d e g k h) = rw (d, e, g, k, h, (may_same site i f).an_auto) (not_all (o && l) q (may_by site storages.Auto i f))
stands_by site t s a r st o l q i f (one_register d e g k h) = rw (d, e, g, k, h, (may_same site i f).a_register) (not_all (o && l) q (may_by site storages.Register i f))
stands_by site t s a r st o l q i f (many h p) = rw (lt-leb (t + (s + (a + r))) 1 (omega (arith, h))) (both_false o l (q && may site t s a r i f) (not q || not (may_by site st i f)))

stands_at : (site : Site) (g : Gathered) (q i f : Bool) → not (is_orderly g && (q && may site (times words.Typedef g.words) (times words.Static g.words) (times words.Auto g.words) (times words.Register g.words) i f)) ≡ not (is_orderly g) || (not q || not (may_by site (storage_in g.words) i f))
stands_at site g q i f = stands_by site (times words.Typedef g.words) (times words.Static g.words) (times words.Auto g.words) (times words.Register g.words) (storage_in g.words) (once_each g.words single_words) (nat_le (length g.bases) 1) q i f (stored g.words)

stands : (site : Site) (g : Gathered) (q : Bool) (known : Known) → not (is_orderly g && (q && may_stand known (site_of site) g.words)) ≡ not (is_orderly g) || (not q || not (fits (kept_of g) site (in_file known)))
stands sites.File g q known = stands_at sites.File g q (has g.words words.Interrupt) (in_file known)
stands sites.Block g q known = stands_at sites.Block g q (has g.words words.Interrupt) (in_file known)
stands sites.Member g q known = stands_at sites.Member g q (has g.words words.Interrupt) (in_file known)
stands sites.Param g q known = stands_at sites.Param g q (has g.words words.Interrupt) (in_file known)
stands sites.TypeName g q known = stands_at sites.TypeName g q (has g.words words.Interrupt) (in_file known)

-- No type has these words together.
pub ends_without : (site : Site) (g : Gathered) (line : ℕ) (known : Known) (w : Words) → w ≡ kept_of g → base_type w w.base ≡ None → specifiers (site_of site) g line known ≡ Err (record { kind = kind.Declare; line = line })
ends_without site g line known w e h = rw (← base_by g.words g.bases, by_kept) refl where
  by_kept : base_type (kept_of g) (first_of g.bases) ≡ None
  by_kept = rw e at h

-- The words may not stand together, or not at the site, or a qualifier stands twice.
pub ends_badly : (site : Site) (g : Gathered) (line : ℕ) (known : Known) (w : Words) (f : Bool) (named : rule.Named) → w ≡ kept_of g → f ≡ in_file known → base_type w w.base ≡ Some named → w.bad || (not (gathering.qualifies_once w named.ty) || not (fits w site f)) ≡ true → specifiers (site_of site) g line known ≡ Err (record { kind = kind.Declare; line = line })
ends_badly site g line known w f named e i h b = rw (← base_by g.words g.bases, by_kept, stands site g (qualifies_once g.words named.ty) known, by_test) refl where
  by_kept : base_type (kept_of g) (first_of g.bases) ≡ Some named
  by_kept = rw e at h

  by_test : not (is_orderly g) || (not (qualifies_once g.words named.ty) || not (fits (kept_of g) site (in_file known))) ≡ true
  by_test = rw (e, i) at b

-- ---- arrays that wait

pub grown_made : (b : Bool) (n : ℕ) (inner : rule.Named) (ty : Qualified) (known after : Known) → b ≡ true → array_of inner.ty n known ≡ Ok (ty, after) → rule.grown_by b n inner known ≡ Ok (record { ty = ty; waiting = rule_known.Whole }, after)
grown_made b n inner ty known after t h = rw t (ap (go_on (λ (made : Qualified). given {A = rule.Named} (record { ty = made; waiting = rule_known.Whole }))) h)

pub grown_unmade : (b : Bool) (n : ℕ) (inner : rule.Named) (known : Known) (e : CheckError) → b ≡ true → Refuses e (array_of inner.ty n known) → Refuses e (rule.grown_by b n inner known)
grown_unmade b n inner known e t h = rw t (refused_through e (λ (made : Qualified). given {A = rule.Named} (record { ty = made; waiting = rule_known.Whole })) (array_of inner.ty n known) h)

pub remade_two : (ty : Qualified) (n m : ℕ) (inner : rule.Named) (known mid : Known) → rule.grown m (record { ty = ty; waiting = rule_known.Whole }) known ≡ Ok (inner, mid) → rule.remade ty (rule_known.TwoArrays n m) known ≡ rule.grown n inner mid
remade_two ty n m inner known mid h = ap (go_on (rule.grown n)) h

pub remade_undone : (ty : Qualified) (n m : ℕ) (known : Known) (e : CheckError) → Refuses e (rule.grown m (record { ty = ty; waiting = rule_known.Whole }) known) → Refuses e (rule.remade ty (rule_known.TwoArrays n m) known)
remade_undone ty n m known e h = refused_through e (rule.grown n) (rule.grown m (record { ty = ty; waiting = rule_known.Whole }) known) h

-- Arrays that wait can't be made for want of memory.
pub ends_unmade : (site : Site) (g : Gathered) (line : ℕ) (known : Known) (w : Words) (f : Bool) (named : rule.Named) (e : CheckError) → w ≡ kept_of g → f ≡ in_file known → base_type w w.base ≡ Some named → w.bad || (not (gathering.qualifies_once w named.ty) || not (fits w site f)) ≡ false → Refuses e (rule.remade named.ty named.waiting known) → Refuses e (specifiers (site_of site) g line known)
ends_unmade site g line known w f named error e i h b r = rw (← base_by g.words g.bases, by_kept, stands site g (qualifies_once g.words named.ty) known, by_test) (refused_through error (λ (whole : rule.Named). given (rule.said g.words whole line)) (rule.remade named.ty named.waiting known) r) where
  by_kept : base_type (kept_of g) (first_of g.bases) ≡ Some named
  by_kept = rw e at h

  by_test : not (is_orderly g) || (not (qualifies_once g.words named.ty) || not (fits (kept_of g) site (in_file known))) ≡ false
  by_test = rw (e, i) at b

-- What they say where they may.
pub ends_well : (site : Site) (g : Gathered) (line : ℕ) (known after : Known) (w : Words) (f : Bool) (named : rule.Named) (whole : NamedType) → w ≡ kept_of g → f ≡ in_file known → base_type w w.base ≡ Some named → w.bad || (not (gathering.qualifies_once w named.ty) || not (fits w site f)) ≡ false → rule.remade named.ty named.waiting known ≡ Ok (named_of whole, after) → specifiers (site_of site) g line known ≡ Ok (specified_of (record { ty = record { ty = whole.ty.ty; constant = w.constant || whole.ty.constant; volatile = w.volatile || whole.ty.volatile }; waiting = whole.waiting; storage = w.storage; interrupt = w.interrupt; line = line }), after)
ends_well site g line known after w f named whole e i h b r = rw (← base_by g.words g.bases, by_kept, stands site g (qualifies_once g.words named.ty) known, by_test, r, e, words_on.0, words_on.1, words_on.2) refl where
  by_kept : base_type (kept_of g) (first_of g.bases) ≡ Some named
  by_kept = rw e at h

  by_test : not (is_orderly g) || (not (qualifies_once g.words named.ty) || not (fits (kept_of g) site (in_file known))) ≡ false
  by_test = rw (e, i) at b

  orderly : (o s l x : Bool) → not (o && (s && l)) || x ≡ false → s ≡ true
  orderly true true l x h = refl
  orderly true false l x h = sym h
  orderly false s l x h = absurd (true≢false h)

  words_on : (is_typedef (storage_in g.words) ≡ has g.words words.Typedef) × (is_static (storage_in g.words) ≡ has g.words words.Static) × (is_register (storage_in g.words) ≡ has g.words words.Register)
  words_on = stored_one (times words.Typedef g.words) (times words.Static g.words) (times words.Auto g.words) (times words.Register g.words) (storage_in g.words) (stored g.words) (orderly (once_each g.words single_words) (nat_le (storage_words g.words) 1) (nat_le (length g.bases) 1) _ by_test)
