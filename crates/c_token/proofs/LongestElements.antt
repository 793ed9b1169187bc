-- Elements of character constants and strings: what is read from a front that has a byte behind it is
-- what is read from the whole text.
use Rattle.std.proofs.Common.{ℕ, zero, suc, ◌+◌, ◌-◌, ◌<◌, ◌≤◌, ◌≡◌, true, false, cond, Option, Some, None, List, [], ◌∷◌, length, drop, take, arith, ap, sym, ◌∙◌, refl, eqb-true, eq-eqb, length-take, length-drop, take-take, add-one}
use Rattle.std.specs.Prelude.{nat_eq, ◌==◌}
use Rattle.std.specs.List.{prefix_len, starts_with}
use Rattle.std.specs.Str.{bytes_eq}
use Rattle.std.specs.Cmp.Lexicographic.{bytes_decides}
use Rattle.std.proofs.lemmas.List.{drop-take}
use Rattle.std.proofs.lemmas.Option.{some_pair_parts}
use Rattle.c_token.specs.declared.token.TokKind.{TokKind}
use Rattle.c_token.specs.declared.token.TokKind.TheVariants as kind
use Rattle.c_token.specs.Bytes.{is_digit, is_plain}
use Rattle.c_token.specs.Constant.{◌>>=◌, code_in, octal_escape, hexadecimal_escape, escape_letter, escape_at, element_at, character_at, string_end}
use Rattle.c_token.specs.Token.{string_at}
use Rattle.c_token.specs.Longest.{character_spelled, string_spelled, is_integer}
use Rattle.c_token.proofs.LongestFronts.{bound, bind_into, branch_into, prefix_front, take_swap}
use Rattle.c_token.proofs.LongestNumbers.{branches}

-- ---- numeric escapes

made : (o : Option ℕ) (n : ℕ) (x : ℕ × ℕ) → (o >>= λ code. Some (code, n)) ≡ Some x → x.1 ≡ n
made o n x e =
    let b = bound o (λ code. Some (code, n)) x e in
    let h : x ≡ (b.first, n) = cc in
    ap (λ (p : ℕ × ℕ). p.1) h

octal_length : (xs : List ℕ) (x : ℕ × ℕ) → octal_escape xs ≡ Some x → x.1 ≡ prefix_len (is_digit 8) (take 3 xs) + 1
unfolding octal_escape
octal_length xs x e = let count = prefix_len (is_digit 8) (take 3 xs) in made (code_in 8 (take count xs)) (count + 1) x e

front_count : (m : ℕ) (xs : List ℕ) → prefix_len (is_digit 8) (take 3 (take m xs)) ≡ prefix_len (is_digit 8) (take m (take 3 xs))
front_count m xs = ap (prefix_len (is_digit 8)) (take_swap 3 m xs)

octal_same : (m : ℕ) (xs : List ℕ) → prefix_len (is_digit 8) (take 3 xs) < m → octal_escape (take m xs) ≡ octal_escape xs
unfolding octal_escape
octal_same m xs h =
    let count = prefix_len (is_digit 8) (take 3 xs) in
    let same : prefix_len (is_digit 8) (take 3 (take m xs)) ≡ count = omega (arith, front_count m xs, prefix_front (is_digit 8) m (take 3 xs)) in
    ap (λ (n : ℕ). code_in 8 (take n (take m xs)) >>= λ code. Some (code, n + 1)) same
    ∙ ap (λ (ys : List ℕ). code_in 8 ys >>= λ code. Some (code, count + 1)) (take-take count m xs (let le : count ≤ m = omega arith in le))

octal_front : (m : ℕ) (xs : List ℕ) (x : ℕ × ℕ) → octal_escape (take m xs) ≡ Some x → x.1 ≤ m → octal_escape xs ≡ Some x
octal_front m xs x e h = sym (octal_same m xs (omega (arith, octal_length (take m xs) x e, front_count m xs, prefix_front (is_digit 8) m (take 3 xs)))) ∙ e

octal_whole : (m : ℕ) (xs : List ℕ) (x : ℕ × ℕ) → octal_escape xs ≡ Some x → x.1 ≤ m → octal_escape (take m xs) ≡ Some x
octal_whole m xs x e h = octal_same m xs (omega (arith, octal_length xs x e)) ∙ e

hexadecimal_length : (xs : List ℕ) (x : ℕ × ℕ) → hexadecimal_escape xs ≡ Some x → x.1 ≡ prefix_len (is_digit 16) xs + 2
unfolding hexadecimal_escape
hexadecimal_length xs x e = let count = prefix_len (is_digit 16) xs in made (code_in 16 (take count xs)) (count + 2) x e

hexadecimal_same : (m : ℕ) (xs : List ℕ) → prefix_len (is_digit 16) xs < m → hexadecimal_escape (take m xs) ≡ hexadecimal_escape xs
unfolding hexadecimal_escape
hexadecimal_same m xs h =
    let count = prefix_len (is_digit 16) xs in
    let same : prefix_len (is_digit 16) (take m xs) ≡ count = omega (arith, prefix_front (is_digit 16) m xs) in
    ap (λ (n : ℕ). code_in 16 (take n (take m xs)) >>= λ code. Some (code, n + 2)) same
    ∙ ap (λ (ys : List ℕ). code_in 16 ys >>= λ code. Some (code, count + 2)) (take-take count m xs (let le : count ≤ m = omega arith in le))

hexadecimal_front : (m : ℕ) (xs : List ℕ) (x : ℕ × ℕ) → hexadecimal_escape (take m xs) ≡ Some x → x.1 ≤ suc m → hexadecimal_escape xs ≡ Some x
hexadecimal_front m xs x e h = sym (hexadecimal_same m xs (omega (arith, hexadecimal_length (take m xs) x e, prefix_front (is_digit 16) m xs))) ∙ e

hexadecimal_whole : (m : ℕ) (xs : List ℕ) (x : ℕ × ℕ) → hexadecimal_escape xs ≡ Some x → x.1 ≤ suc m → hexadecimal_escape (take m xs) ≡ Some x
hexadecimal_whole m xs x e h = hexadecimal_same m xs (omega (arith, hexadecimal_length xs x e)) ∙ e

-- ---- escapes and elements

escape_some : (xs : List ℕ) (x : ℕ × ℕ) → escape_at xs ≡ Some x → 1 ≤ x.1
unfolding escape_at
escape_some [] x e = absurd cc
escape_some (b ∷ rest) x e =
    branches (is_digit 8 b) (octal_escape (b ∷ rest)) (cond (b == 120) (hexadecimal_escape rest) (escape_letter b >>= λ code. Some (code, 2))) x
    (λ t g. omega (arith, octal_length (b ∷ rest) x g))
    (λ t g. branches (b == 120) (hexadecimal_escape rest) (escape_letter b >>= λ code. Some (code, 2)) x
    (λ u h. omega (arith, hexadecimal_length rest x h))
    (λ u h. omega (arith, made (escape_letter b) 2 x h)) g) e

escape_front : (m : ℕ) (xs : List ℕ) (x : ℕ × ℕ) → escape_at (take m xs) ≡ Some x → x.1 ≤ m → escape_at xs ≡ Some x
unfolding escape_at
escape_front zero xs x e h = absurd cc
escape_front (suc m) [] x e h = absurd cc
escape_front (suc m) (b ∷ rest) x e h =
    let letter : Option (ℕ × ℕ) = escape_letter b >>= λ code. Some (code, 2) in
    branch_into (is_digit 8 b) (octal_escape (b ∷ take m rest)) (cond (b == 120) (hexadecimal_escape (take m rest)) letter) (octal_escape (b ∷ rest)) (cond (b == 120) (hexadecimal_escape rest) letter) x
    (λ g. octal_front (suc m) (b ∷ rest) x g h)
    (branch_into (b == 120) (hexadecimal_escape (take m rest)) letter (hexadecimal_escape rest) letter x (λ g. hexadecimal_front m rest x g h) (λ g. g)) e

escape_whole : (m : ℕ) (xs : List ℕ) (x : ℕ × ℕ) → escape_at xs ≡ Some x → x.1 ≤ m → escape_at (take m xs) ≡ Some x
unfolding escape_at
escape_whole zero xs x e h = absurd (omega (arith, escape_some xs x e))
escape_whole (suc m) [] x e h = absurd cc
escape_whole (suc m) (b ∷ rest) x e h =
    let letter : Option (ℕ × ℕ) = escape_letter b >>= λ code. Some (code, 2) in
    branch_into (is_digit 8 b) (octal_escape (b ∷ rest)) (cond (b == 120) (hexadecimal_escape rest) letter) (octal_escape (b ∷ take m rest)) (cond (b == 120) (hexadecimal_escape (take m rest)) letter) x
    (λ g. octal_whole (suc m) (b ∷ rest) x g h)
    (branch_into (b == 120) (hexadecimal_escape rest) letter (hexadecimal_escape (take m rest)) letter x (λ g. hexadecimal_whole m rest x g h) (λ g. g)) e

element_front : (quote m : ℕ) (xs : List ℕ) (x : ℕ × ℕ) → element_at quote (take m xs) ≡ Some x → x.1 < m → element_at quote xs ≡ Some x
unfolding element_at
element_front quote zero xs x e h = absurd cc
element_front quote (suc m) [] x e h = absurd cc
element_front quote (suc m) (b ∷ rest) x e h =
    let plain : Option (ℕ × ℕ) = cond (is_plain quote b) (Some (b, 1)) None in
    branch_into (b == 92) (escape_at (take m rest)) plain (escape_at rest) plain x (λ g. escape_front m rest x g (omega arith)) (λ g. g) e

element_whole : (quote m : ℕ) (xs : List ℕ) (x : ℕ × ℕ) → element_at quote xs ≡ Some x → x.1 < m → element_at quote (take m xs) ≡ Some x
unfolding element_at
element_whole quote zero xs x e h = absurd (omega arith)
element_whole quote (suc m) [] x e h = absurd cc
element_whole quote (suc m) (b ∷ rest) x e h =
    let plain : Option (ℕ × ℕ) = cond (is_plain quote b) (Some (b, 1)) None in
    branch_into (b == 92) (escape_at rest) plain (escape_at (take m rest)) plain x (λ g. escape_whole m rest x g (omega arith)) (λ g. g) e

-- ---- strings

one_further : (k n : ℕ) → Some (k + 1) ≡ Some n → k + 1 ≡ n
one_further k n e = cc

string_bounds : (xs : List ℕ) (p n : ℕ) → string_end p xs ≡ Some n → (p < n) × (n ≤ length xs)
unfolding string_end
string_bounds [] p n e = absurd cc
string_bounds (x ∷ xs) (suc p) n e =
    let b = bound (string_end p xs) (λ k. Some (k + 1)) n e in
    let h = string_bounds xs p b.first b.is in
    let f = one_further b.first n b.then in
    (omega arith, omega arith)
string_bounds (x ∷ xs) zero n e =
    branches (x == 34) (Some 1) (element_at 34 (x ∷ xs) >>= λ el. string_end (el.1 - 1) xs >>= λ k. Some (k + 1)) n
    (λ t g. let f : 1 ≡ n = cc in (omega arith, omega arith))
    (λ t g.
    let b = bound (element_at 34 (x ∷ xs)) (λ el. string_end (el.1 - 1) xs >>= λ k. Some (k + 1)) n g in
    let c = bound (string_end (b.first.1 - 1) xs) (λ k. Some (k + 1)) n b.then in
    let h = string_bounds xs (b.first.1 - 1) c.first c.is in
    let f = one_further c.first n c.then in
    (omega arith, omega arith)) e

string_front : (xs : List ℕ) (m p n : ℕ) → string_end p (take m xs) ≡ Some n → string_end p xs ≡ Some n
unfolding string_end
string_front [] zero p n e = absurd cc
string_front [] (suc m) p n e = absurd cc
string_front (x ∷ xs) zero p n e = absurd cc
string_front (x ∷ xs) (suc m) (suc p) n e = bind_into (string_end p (take m xs)) (string_end p xs) (λ k. Some (k + 1)) (λ k. Some (k + 1)) n (λ k g h. (string_front xs m p k g, h)) e
string_front (x ∷ xs) (suc m) zero n e =
    branch_into (x == 34) (Some 1) (element_at 34 (x ∷ take m xs) >>= λ el. string_end (el.1 - 1) (take m xs) >>= λ k. Some (k + 1)) (Some 1) (element_at 34 (x ∷ xs) >>= λ el. string_end (el.1 - 1) xs >>= λ k. Some (k + 1)) n
    (λ g. g)
    (bind_into (element_at 34 (x ∷ take m xs)) (element_at 34 (x ∷ xs)) (λ el. string_end (el.1 - 1) (take m xs) >>= λ k. Some (k + 1)) (λ el. string_end (el.1 - 1) xs >>= λ k. Some (k + 1)) n
    (λ el g h.
    let b = bound (string_end (el.1 - 1) (take m xs)) (λ k. Some (k + 1)) n h in
    let s = string_bounds (take m xs) (el.1 - 1) b.first b.is in (
      element_front 34 (suc m) (x ∷ xs) el g (omega (arith, s, length-take m xs)),
      bind_into (string_end (el.1 - 1) (take m xs)) (string_end (el.1 - 1) xs) (λ k. Some (k + 1)) (λ k. Some (k + 1)) n (λ k i j. (string_front xs m (el.1 - 1) k i, j)) h,
    ))) e

string_whole : (xs : List ℕ) (m p n : ℕ) → n ≤ m → string_end p xs ≡ Some n → string_end p (take m xs) ≡ Some n
unfolding string_end
string_whole [] m p n l e = absurd cc
string_whole (x ∷ xs) zero p n l e = absurd (let s = string_bounds (x ∷ xs) p n e in omega arith)
string_whole (x ∷ xs) (suc m) (suc p) n l e = bind_into (string_end p xs) (string_end p (take m xs)) (λ k. Some (k + 1)) (λ k. Some (k + 1)) n (λ k g h. (string_whole xs m p k (omega (arith, one_further k n h)) g, h)) e
string_whole (x ∷ xs) (suc m) zero n l e =
    branch_into (x == 34) (Some 1) (element_at 34 (x ∷ xs) >>= λ el. string_end (el.1 - 1) xs >>= λ k. Some (k + 1)) (Some 1) (element_at 34 (x ∷ take m xs) >>= λ el. string_end (el.1 - 1) (take m xs) >>= λ k. Some (k + 1)) n
    (λ g. g)
    (bind_into (element_at 34 (x ∷ xs)) (element_at 34 (x ∷ take m xs)) (λ el. string_end (el.1 - 1) xs >>= λ k. Some (k + 1)) (λ el. string_end (el.1 - 1) (take m xs) >>= λ k. Some (k + 1)) n
    (λ el g h.
    let b = bound (string_end (el.1 - 1) xs) (λ k. Some (k + 1)) n h in
    let s = string_bounds xs (el.1 - 1) b.first b.is in
    let f = one_further b.first n b.then in (
      element_whole 34 (suc m) (x ∷ xs) el g (omega arith),
      bind_into (string_end (el.1 - 1) xs) (string_end (el.1 - 1) (take m xs)) (λ k. Some (k + 1)) (λ k. Some (k + 1)) n (λ k i j. (string_whole xs m (el.1 - 1) k (omega (arith, one_further k n j)) i, j)) h,
    ))) e

-- ---- constants in quotes

-- a constant that ends behind so many further bytes
pub record Quoted (quote : ℕ) (spelled : List ℕ → Option TokKind) (rest : List ℕ) (k : TokKind) (n : ℕ) : Type 0 where
  pub further : ℕ
  pub is : n ≡ suc further
  pub within : further ≤ length rest
  pub spells : spelled (quote ∷ take further rest) ≡ Some k
  pub kind_is : is_integer k ≡ false

string_ends : (rest : List ℕ) (count : ℕ) → string_end 0 rest ≡ Some count → string_at rest ≡ Some (kind.Text, suc count)
unfolding string_at
string_ends rest count e = ap (λ o. o >>= λ n. Some (kind.Text, n + 1)) e ∙ ap (λ (n : ℕ). Some (kind.Text, n)) (add-one count)

string_spells : (bytes : List ℕ) → string_end 0 bytes ≡ Some (length bytes) → string_spelled (34 ∷ bytes) ≡ Some kind.Text
unfolding string_spelled
string_spells bytes e =
    ap (λ o. o >>= λ count. cond (count == length bytes) (Some kind.Text) None) e
    ∙ ap (λ t. cond t (Some kind.Text) None) (eq-eqb (length bytes) (length bytes) refl)

pub string_reads : (m : ℕ) (rest : List ℕ) (k : TokKind) → m ≤ length rest → string_spelled (34 ∷ take m rest) ≡ Some k → string_at rest ≡ Some (k, suc m)
unfolding string_spelled
string_reads m rest k l e =
    let b = bound (string_end 0 (take m rest)) (λ count. cond (count == length (take m rest)) (Some kind.Text) None) k e in
    branches (b.first == length (take m rest)) (Some kind.Text) None k
    (λ t g.
    let count : b.first ≡ m = omega (arith, eqb-true b.first (length (take m rest)) t, length-take m rest) in
    let text : kind.Text ≡ k = cc in
    string_ends rest m (string_front rest m 0 m (b.is ∙ ap Some count)) ∙ ap (λ (j : TokKind). Some (j, suc m)) text)
    (λ t g. absurd cc) b.then

string_text : (rest : List ℕ) (count : ℕ) → string_end 0 rest ≡ Some count → count ≤ length rest → string_spelled (34 ∷ take count rest) ≡ Some kind.Text
string_text rest count e l =
    let size : length (take count rest) ≡ count = omega (arith, length-take count rest) in
    string_spells (take count rest) (string_whole rest count 0 count (omega arith) e ∙ ap Some (sym size))

pub string_quoted : (rest : List ℕ) (k : TokKind) (n : ℕ) → string_at rest ≡ Some (k, n) → Quoted 34 string_spelled rest k n
unfolding string_at
string_quoted rest k n e =
    let b = bound (string_end 0 rest) (λ count. Some (kind.Text, count + 1)) (k, n) e in
    let parts = some_pair_parts kind.Text k (b.first + 1) n b.then in
    let s = string_bounds rest 0 b.first b.is in
    record {
      further = b.first;
      is = omega arith;
      within = s.1;
      spells = string_text rest b.first b.is s.1 ∙ ap Some parts.0;
      kind_is = ap is_integer (sym parts.0);
    }

closing : (c : ℕ) (rest : List ℕ) → take 1 (drop c rest) ≡ 39 ∷ [] → starts_with nat_eq (drop c rest) (39 ∷ []) ≡ true
closing c rest e = (bytes_decides (39 ∷ []) (take 1 (drop c rest))).1 (sym e)

closed : (c : ℕ) (rest : List ℕ) → starts_with nat_eq (drop c rest) (39 ∷ []) ≡ true → take 1 (drop c rest) ≡ 39 ∷ []
closed c rest e = sym ((bytes_decides (39 ∷ []) (take 1 (drop c rest))).0 e)

character_ends : (rest : List ℕ) (x : ℕ × ℕ) → element_at 39 rest ≡ Some x → take 1 (drop x.1 rest) ≡ 39 ∷ [] → character_at rest ≡ Some (kind.Char x.0, x.1 + 2)
unfolding character_at
character_ends rest x e q =
    ap (λ o. o >>= λ y. cond (starts_with nat_eq (drop y.1 rest) (39 ∷ [])) (Some (kind.Char y.0, y.1 + 2)) None) e
    ∙ ap (λ t. cond t (Some (kind.Char x.0, x.1 + 2)) None) (closing x.1 rest q)

character_spells : (bytes : List ℕ) (x : ℕ × ℕ) → element_at 39 bytes ≡ Some x → drop x.1 bytes ≡ 39 ∷ [] → character_spelled (39 ∷ bytes) ≡ Some (kind.Char x.0)
unfolding character_spelled
character_spells bytes x e q =
    ap (λ o. o >>= λ y. cond (bytes_eq (drop y.1 bytes) (39 ∷ [])) (Some (kind.Char y.0)) None) e
    ∙ ap (λ t. cond t (Some (kind.Char x.0)) None) ((bytes_decides (drop x.1 bytes) (39 ∷ [])).1 q)

-- an element of a front that ends with the closing quote
character_element : (m : ℕ) (rest : List ℕ) (x : ℕ × ℕ) → m ≤ length rest → element_at 39 (take m rest) ≡ Some x → drop x.1 (take m rest) ≡ 39 ∷ [] → character_at rest ≡ Some (kind.Char x.0, suc m)
character_element m rest x l e q =
    let size : m ≡ x.1 + 1 = omega (arith, ap length q, length-drop x.1 (take m rest), length-take m rest) in
    let quote : take 1 (drop x.1 rest) ≡ 39 ∷ [] = sym (drop-take x.1 1 rest) ∙ ap (λ (j : ℕ). drop x.1 (take j rest)) (sym size) ∙ q in
    character_ends rest x (element_front 39 m rest x e (omega arith)) quote ∙ ap (λ (n : ℕ). Some (kind.Char x.0, n)) (let same : x.1 + 2 ≡ suc m = omega arith in same)

pub character_reads : (m : ℕ) (rest : List ℕ) (k : TokKind) → m ≤ length rest → character_spelled (39 ∷ take m rest) ≡ Some k → character_at rest ≡ Some (k, suc m)
unfolding character_spelled
character_reads m rest k l e =
    let b = bound (element_at 39 (take m rest)) (λ x. cond (bytes_eq (drop x.1 (take m rest)) (39 ∷ [])) (Some (kind.Char x.0)) None) k e in
    branches (bytes_eq (drop b.first.1 (take m rest)) (39 ∷ [])) (Some (kind.Char b.first.0)) None k
    (λ t g.
    let char : kind.Char b.first.0 ≡ k = cc in
    character_element m rest b.first l b.is ((bytes_decides (drop b.first.1 (take m rest)) (39 ∷ [])).0 t) ∙ ap (λ (j : TokKind). Some (j, suc m)) char)
    (λ t g. absurd cc) b.then

character_char : (rest : List ℕ) (x : ℕ × ℕ) → element_at 39 rest ≡ Some x → take 1 (drop x.1 rest) ≡ 39 ∷ [] → character_spelled (39 ∷ take (x.1 + 1) rest) ≡ Some (kind.Char x.0)
character_char rest x e q = character_spells (take (x.1 + 1) rest) x (element_whole 39 (x.1 + 1) rest x e (omega arith)) (drop-take x.1 1 rest ∙ q)

pub character_quoted : (rest : List ℕ) (k : TokKind) (n : ℕ) → character_at rest ≡ Some (k, n) → Quoted 39 character_spelled rest k n
unfolding character_at
character_quoted rest k n e =
    let b = bound (element_at 39 rest) (λ x. cond (starts_with nat_eq (drop x.1 rest) (39 ∷ [])) (Some (kind.Char x.0, x.1 + 2)) None) (k, n) e in
    branches (starts_with nat_eq (drop b.first.1 rest) (39 ∷ [])) (Some (kind.Char b.first.0, b.first.1 + 2)) None (k, n)
    (λ t g.
    let parts = some_pair_parts (kind.Char b.first.0) k (b.first.1 + 2) n g in
    let quote = closed b.first.1 rest t in
    record {
      further = b.first.1 + 1;
      is = omega arith;
      within = omega (arith, ap length quote, length-take 1 (drop b.first.1 rest), length-drop b.first.1 rest);
      spells = character_char rest b.first b.is quote ∙ ap Some parts.0;
      kind_is = ap is_integer (sym parts.0);
    })
    (λ t g. absurd cc) b.then
