-- What marks say of two memories, and that writes keep it.
use Rattle.std.proofs.Common.{◌≡◌, ℕ, zero, suc, ◌<◌, Bool, true, false, not, ◌&&◌, nat_eq, if◌then◌else◌, Option, Some, refl, sym, ap, ◌∙◌, subst, arith}
use Rattle.std.proofs.lemmas.Bool.{true≢false, and_parts, both_ways, eqb-true, not-true}
use Rattle.core_code.specs.Bytes as bytes
use Rattle.core_code.specs.Bytes.{Held, Memory, Place, same_byte, behind, with_byte, with_bytes}
use Rattle.core_code.specs.Values.{number_in, with_low, joined, pointer_in, pointer_if, value_in, truth_in, truth_of}
use Rattle.c_ints.specs.Range.{bytes_of}
use Rattle.c_ints.specs.declared.types.IntTy.{IntTy}
use Rattle.core_code.specs.declared.code.Byte.{Byte}
use Rattle.core_code.specs.declared.code.Byte.TheVariants.{Static, Frame, Result, Device}
use Rattle.narrow_code.specs.Marks.{Mark, Zero, Numbers, Same, Tells, Denies, Cleared, Differs, Marks, Holds, IsBelow, is_same, is_number, is_zero, is_cleared, tells, denies, cleared, marked, marked_bytes, marked_on, mark_in, own_mark, agree, may_differ, Below}

pub never : {A : Type 0} → false ≡ true → A
never e = absurd (true≢false (sym e))

-- ---- marks
pub holds_same : (k : Mark) (h l : Held) → is_same k ≡ true → Holds k h l → h ≡ l
holds_same Zero h l e p = p.0 ∙ sym p.1
holds_same Numbers h l e p = p.2 ∙ sym p.3
holds_same Same h l e p = p
holds_same Tells h l e p = never e
holds_same Denies h l e p = never e
holds_same Cleared h l e p = never e
holds_same Differs h l e p = never e

pub holds_number : (k : Mark) (h l : Held) → is_number k ≡ true → Holds k h l → (n : ℕ) × (n < 256) × (h ≡ bytes.Number n) × (l ≡ bytes.Number n)
holds_number Zero h l e p = (0, omega arith, p.0, p.1)
holds_number Numbers h l e p = p
holds_number Same h l e p = never e
holds_number Tells h l e p = never e
holds_number Denies h l e p = never e
holds_number Cleared h l e p = never e
holds_number Differs h l e p = never e

holds_zero : (k : Mark) (h l : Held) → is_zero k ≡ true → Holds k h l → Holds Zero h l
holds_zero Zero h l e p = p
holds_zero Numbers h l e p = never e
holds_zero Same h l e p = never e
holds_zero Tells h l e p = never e
holds_zero Denies h l e p = never e
holds_zero Cleared h l e p = never e
holds_zero Differs h l e p = never e

pub holds_tells : (k : Mark) (h l : Held) → tells k ≡ true → Holds k h l → Holds Tells h l
holds_tells Zero h l e p = (0, 0, p.0, p.1, refl)
holds_tells Numbers h l e p = (p.0, p.0, p.2, p.3, refl)
holds_tells Tells h l e p = p
holds_tells Same h l e p = never e
holds_tells Denies h l e p = never e
holds_tells Cleared h l e p = never e
holds_tells Differs h l e p = never e

pub holds_denies : (k : Mark) (h l : Held) → denies k ≡ true → Holds k h l → Holds Denies h l
holds_denies Denies h l e p = p
holds_denies Zero h l e p = never e
holds_denies Numbers h l e p = never e
holds_denies Same h l e p = never e
holds_denies Tells h l e p = never e
holds_denies Cleared h l e p = never e
holds_denies Differs h l e p = never e

pub holds_cleared : (k : Mark) (h l : Held) → is_cleared k ≡ true → Holds k h l → h ≡ bytes.Number 0
holds_cleared Zero h l e p = p.0
holds_cleared Cleared h l e p = p
holds_cleared Numbers h l e p = never e
holds_cleared Same h l e p = never e
holds_cleared Tells h l e p = never e
holds_cleared Denies h l e p = never e
holds_cleared Differs h l e p = never e

pub weaken : (k j : Mark) (h l : Held) → IsBelow k j → Holds j h l → Holds k h l
weaken Zero j h l b p = holds_zero j h l b p
weaken Numbers j h l b p = holds_number j h l b p
weaken Same j h l b p = holds_same j h l b p
weaken Tells j h l b p = holds_tells j h l b p
weaken Denies j h l b p = holds_denies j h l b p
weaken Cleared j h l b p = holds_cleared j h l b p
weaken Differs j h l b p = tt

pub below_refl : (k : Mark) → IsBelow k k
below_refl Zero = refl
below_refl Numbers = refl
below_refl Same = refl
below_refl Tells = refl
below_refl Denies = refl
below_refl Cleared = refl
below_refl Differs = refl

-- what a mark says of itself, all marks above it say
zero_up : (j k : Mark) → is_zero j ≡ true → IsBelow j k → is_zero k ≡ true
zero_up Zero k a b = b
zero_up Numbers k a b = never a
zero_up Same k a b = never a
zero_up Tells k a b = never a
zero_up Denies k a b = never a
zero_up Cleared k a b = never a
zero_up Differs k a b = never a

zero_number : (k : Mark) → is_zero k ≡ true → is_number k ≡ true
zero_number Zero e = refl
zero_number Numbers e = never e
zero_number Same e = never e
zero_number Tells e = never e
zero_number Denies e = never e
zero_number Cleared e = never e
zero_number Differs e = never e

number_same_mark : (k : Mark) → is_number k ≡ true → is_same k ≡ true
number_same_mark Zero e = refl
number_same_mark Numbers e = refl
number_same_mark Same e = never e
number_same_mark Tells e = never e
number_same_mark Denies e = never e
number_same_mark Cleared e = never e
number_same_mark Differs e = never e

number_tells : (k : Mark) → is_number k ≡ true → tells k ≡ true
number_tells Zero e = refl
number_tells Numbers e = refl
number_tells Same e = never e
number_tells Tells e = never e
number_tells Denies e = never e
number_tells Cleared e = never e
number_tells Differs e = never e

zero_cleared : (k : Mark) → is_zero k ≡ true → is_cleared k ≡ true
zero_cleared Zero e = refl
zero_cleared Numbers e = never e
zero_cleared Same e = never e
zero_cleared Tells e = never e
zero_cleared Denies e = never e
zero_cleared Cleared e = never e
zero_cleared Differs e = never e

number_up : (j k : Mark) → is_number j ≡ true → IsBelow j k → is_number k ≡ true
number_up Zero k a b = zero_number k b
number_up Numbers k a b = b
number_up Same k a b = never a
number_up Tells k a b = never a
number_up Denies k a b = never a
number_up Cleared k a b = never a
number_up Differs k a b = never a

same_up : (j k : Mark) → is_same j ≡ true → IsBelow j k → is_same k ≡ true
same_up Zero k a b = number_same_mark k (zero_number k b)
same_up Numbers k a b = number_same_mark k b
same_up Same k a b = b
same_up Tells k a b = never a
same_up Denies k a b = never a
same_up Cleared k a b = never a
same_up Differs k a b = never a

tells_up : (j k : Mark) → tells j ≡ true → IsBelow j k → tells k ≡ true
tells_up Zero k a b = number_tells k (zero_number k b)
tells_up Numbers k a b = number_tells k b
tells_up Tells k a b = b
tells_up Same k a b = never a
tells_up Denies k a b = never a
tells_up Cleared k a b = never a
tells_up Differs k a b = never a

denies_up : (j k : Mark) → denies j ≡ true → IsBelow j k → denies k ≡ true
denies_up Denies k a b = b
denies_up Zero k a b = never a
denies_up Numbers k a b = never a
denies_up Same k a b = never a
denies_up Tells k a b = never a
denies_up Cleared k a b = never a
denies_up Differs k a b = never a

cleared_up : (j k : Mark) → is_cleared j ≡ true → IsBelow j k → is_cleared k ≡ true
cleared_up Zero k a b = zero_cleared k b
cleared_up Cleared k a b = b
cleared_up Numbers k a b = never a
cleared_up Same k a b = never a
cleared_up Tells k a b = never a
cleared_up Denies k a b = never a
cleared_up Differs k a b = never a

pub below_trans : (i j k : Mark) → IsBelow i j → IsBelow j k → IsBelow i k
below_trans Zero j k a b = zero_up j k a b
below_trans Numbers j k a b = number_up j k a b
below_trans Same j k a b = same_up j k a b
below_trans Tells j k a b = tells_up j k a b
below_trans Denies j k a b = denies_up j k a b
below_trans Cleared j k a b = cleared_up j k a b
below_trans Differs j k a b = refl

pub lower : (p : ℕ) (a b c : Marks) → Below p a b → Below p b c → Below p a c
lower p a b c h k copy offset e = below_trans (a (Frame copy offset)) (b (Frame copy offset)) (c (Frame copy offset)) (h copy offset e) (k copy offset e)

pub lower_refl : (p : ℕ) (a : Marks) → Below p a a
lower_refl p a copy offset e = below_refl (a (Frame copy offset))

-- marks behind the same write
below_if : (t : Bool) (k i j : Mark) → IsBelow i j → IsBelow (if t then k else i) (if t then k else j)
below_if true k i j h = below_refl k
below_if false k i j h = h

pub marked_below : (p : ℕ) (a b : Marks) (to : Byte) (k : Mark) → Below p a b → Below p (marked a to k) (marked b to k)
marked_below p a b to k h copy offset e = below_if (same_byte (Frame copy offset) to) k (a (Frame copy offset)) (b (Frame copy offset)) (h copy offset e)

pub bytes_below : (p : ℕ) (a b : Marks) (to : Byte) (n : ℕ) (k : ℕ → Mark) → Below p a b → Below p (marked_bytes a to n k) (marked_bytes b to n k)
bytes_below p a b to zero k h = h
bytes_below p a b to (suc n) k h = marked_below p (marked_bytes a to n k) (marked_bytes b to n k) (behind to n) (k n) (bytes_below p a b to n k h)

pub on_below : (p : ℕ) (a b : Marks) (to : Byte) (n : ℕ) → Below p a b → Below p (marked_on a to n) (marked_on b to n)
on_below p a b to zero h = h
on_below p a b to (suc n) h = on_below p (marked a to Same) (marked b to Same) (behind to 1) n (marked_below p a b to Same h)

-- ---- bytes of a copy's own
-- a byte of the own frame, or of no frame
abbrev pub is_mine : ℕ → Byte → Bool
is_mine p (Static n offset) = true
is_mine p (Frame c offset) = nat_eq c p
is_mine p (Result r k) = true
is_mine p (Device address) = true

pub mine_behind : (p : ℕ) (b : Byte) (n : ℕ) → is_mine p b ≡ true → is_mine p (behind b n) ≡ true
mine_behind p (Static i offset) n e = refl
mine_behind p (Frame c offset) n e = e
mine_behind p (Result r k) n e = refl
mine_behind p (Device address) n e = refl

pub differ_behind : (lent : ℕ → Bool) (p : ℕ) (b : Byte) (n : ℕ) → may_differ lent p b ≡ true → may_differ lent p (behind b n) ≡ true
differ_behind lent p (Static i offset) n e = e
differ_behind lent p (Frame c offset) n e = e
differ_behind lent p (Result r k) n e = e
differ_behind lent p (Device address) n e = e

pub differ_mine : (lent : ℕ → Bool) (p : ℕ) (b : Byte) → may_differ lent p b ≡ true → is_mine p b ≡ true
differ_mine lent p (Static i offset) e = refl
differ_mine lent p (Frame c offset) e = (and_parts (nat_eq c p) (not (lent c)) e).0
differ_mine lent p (Result r k) e = refl
differ_mine lent p (Device address) e = refl

-- two copies
pub other_copy : (c d p : ℕ) → nat_eq c p ≡ false → nat_eq d p ≡ true → nat_eq c d ≡ false
other_copy c d p e f = subst (λ (z : ℕ). nat_eq c z ≡ false) (sym (eqb-true d p f)) e

-- what is known of other frames stays
abbrev pub Off : ℕ → Marks → Marks → Type 0
Off p known next = (copy offset : ℕ) → nat_eq copy p ≡ false → next (Frame copy offset) ≡ known (Frame copy offset)

pub off_refl : (p : ℕ) (known : Marks) → Off p known known
off_refl p known copy offset e = refl

pub off_trans : (p : ℕ) (a b c : Marks) → Off p a b → Off p b c → Off p a c
off_trans p a b c h k copy offset e = k copy offset e ∙ h copy offset e

pub marked_off : (p : ℕ) (known : Marks) (to : Byte) (k : Mark) → is_mine p to ≡ true → Off p known (marked known to k)
marked_off p known (Static n i) k mine copy offset e = refl
marked_off p known (Frame c i) k mine copy offset e = ap (λ (t : Bool). if t && nat_eq offset i then k else known (Frame copy offset)) (other_copy copy c p e mine)
marked_off p known (Result r i) k mine copy offset e = refl
marked_off p known (Device a) k mine copy offset e = refl

pub bytes_off : (p : ℕ) (known : Marks) (to : Byte) (n : ℕ) (k : ℕ → Mark) → is_mine p to ≡ true → Off p known (marked_bytes known to n k)
bytes_off p known to zero k mine = off_refl p known
bytes_off p known to (suc n) k mine = off_trans p known (marked_bytes known to n k) (marked (marked_bytes known to n k) (behind to n) (k n)) (bytes_off p known to n k mine) (marked_off p (marked_bytes known to n k) (behind to n) (k n) (mine_behind p to n mine))

module _ (lent : ℕ → Bool) where
  -- ---- two memories
  abbrev pub Alike : Marks → Memory → Memory → Type 0
  Alike known m l = (b : Byte) → Holds (mark_in lent known b) (m b) (l b)

  pub if_same : (t : Bool) (h l a b : Held) → h ≡ l → a ≡ b → (if t then h else a) ≡ (if t then l else b)
  if_same true h l a b e f = e
  if_same false h l a b e f = f

  pub if_held : (s t : Bool) (k j : Mark) (h l a b : Held) → (s ≡ true → t ≡ true → h ≡ l) → Holds k h l → Holds (if s then Same else j) a b → Holds (if s then Same else if t then k else j) (if t then h else a) (if t then l else b)
  if_held true true k j h l a b e q r = e refl refl
  if_held true false k j h l a b e q r = r
  if_held false true k j h l a b e q r = q
  if_held false false k j h l a b e q r = r

  -- the same is written to both
  pub set_same : (known : Marks) (m l : Memory) (to : Byte) (k : Mark) (h g : Held) → h ≡ g → Holds k h g → Alike known m l → Alike (marked known to k) (with_byte m to h) (with_byte l to g)
  set_same known m l to k h g e q r (Static n i) = if_same (same_byte (Static n i) to) h g (m (Static n i)) (l (Static n i)) e (r (Static n i))
  set_same known m l to k h g e q r (Frame c i) = if_held (lent c) (same_byte (Frame c i) to) k (known (Frame c i)) h g (m (Frame c i)) (l (Frame c i)) (λ s t. e) q (r (Frame c i))
  set_same known m l to k h g e q r (Result n i) = if_same (same_byte (Result n i) to) h g (m (Result n i)) (l (Result n i)) e (r (Result n i))
  set_same known m l to k h g e q r (Device a) = if_same (same_byte (Device a) to) h g (m (Device a)) (l (Device a)) e (r (Device a))

  -- or to a byte that may differ
  not_lent : (p c i d j : ℕ) → may_differ lent p (Frame d j) ≡ true → lent c ≡ true → (nat_eq c d && nat_eq i j) ≡ true → ⊥
  not_lent p c i d j e s t = both_ways (lent d) (not-true (lent d) (and_parts (nat_eq d p) (not (lent d)) e).1) (subst (λ (z : ℕ). lent z ≡ true) (eqb-true c d (and_parts (nat_eq c d) (nat_eq i j) t).0) s)

  pub set_own : (p : ℕ) (known : Marks) (m l : Memory) (to : Byte) (k : Mark) (h g : Held) → may_differ lent p to ≡ true → Holds k h g → Alike known m l → Alike (marked known to k) (with_byte m to h) (with_byte l to g)
  set_own p known m l (Static n i) k h g e q r b = never e
  set_own p known m l (Result n i) k h g e q r b = never e
  set_own p known m l (Device a) k h g e q r b = never e
  set_own p known m l (Frame d j) k h g e q r (Static n i) = r (Static n i)
  set_own p known m l (Frame d j) k h g e q r (Frame c i) = if_held (lent c) (same_byte (Frame c i) (Frame d j)) k (known (Frame c i)) h g (m (Frame c i)) (l (Frame c i)) (λ s t. absurd (not_lent p c i d j e s t)) q (r (Frame c i))
  set_own p known m l (Frame d j) k h g e q r (Result n i) = r (Result n i)
  set_own p known m l (Frame d j) k h g e q r (Device a) = r (Device a)

  -- to the first alone
  if_left : (s t : Bool) (k j : Mark) (h a b : Held) → (s ≡ true → t ≡ true → ⊥) → Holds k h b → Holds (if s then Same else j) a b → Holds (if s then Same else if t then k else j) (if t then h else a) b
  if_left true true k j h a b e q r = absurd (e refl refl)
  if_left true false k j h a b e q r = r
  if_left false true k j h a b e q r = q
  if_left false false k j h a b e q r = r

  pub set_left : (p : ℕ) (known : Marks) (m l : Memory) (to : Byte) (k : Mark) (h : Held) → may_differ lent p to ≡ true → ((g : Held) → Holds k h g) → Alike known m l → Alike (marked known to k) (with_byte m to h) l
  set_left p known m l (Static n i) k h e q r b = never e
  set_left p known m l (Result n i) k h e q r b = never e
  set_left p known m l (Device a) k h e q r b = never e
  set_left p known m l (Frame d j) k h e q r (Static n i) = r (Static n i)
  set_left p known m l (Frame d j) k h e q r (Frame c i) = if_left (lent c) (same_byte (Frame c i) (Frame d j)) k (known (Frame c i)) h (m (Frame c i)) (l (Frame c i)) (λ s t. not_lent p c i d j e s t) (q (l (Frame c i))) (r (Frame c i))
  set_left p known m l (Frame d j) k h e q r (Result n i) = r (Result n i)
  set_left p known m l (Frame d j) k h e q r (Device a) = r (Device a)

  -- so many bytes
  pub set_bytes : (known : Marks) (m l : Memory) (to : Byte) (n : ℕ) (k : ℕ → Mark) (h : ℕ → Held) → ((i : ℕ) → Holds (k i) (h i) (h i)) → Alike known m l → Alike (marked_bytes known to n k) (with_bytes m to n h) (with_bytes l to n h)
  set_bytes known m l to zero k h q r = r
  set_bytes known m l to (suc n) k h q r = set_same (marked_bytes known to n k) (with_bytes m to n h) (with_bytes l to n h) (behind to n) (k n) (h n) (h n) refl (q n) (set_bytes known m l to n k h q r)

  -- ---- reading
  own_if : (t s : Bool) (k j : Mark) (h l : Held) → (t ≡ true → IsBelow k j) → Holds (if s then Same else j) h l → Holds (if t then (if s then Same else k) else Differs) h l
  own_if true true k j h l b r = r
  own_if true false k j h l b r = weaken k j h l (b refl) r
  own_if false s k j h l b r = tt

  module _ (p : ℕ) (here known : Marks) (m l : Memory) (alike : Alike known m l) (link : Below p here known) where
    pub own_holds : (b : Byte) → Holds (own_mark lent p here b) (m b) (l b)
    own_holds (Static n i) = alike (Static n i)
    own_holds (Frame c i) = own_if (nat_eq c p) (lent c) (here (Frame c i)) (known (Frame c i)) (m (Frame c i)) (l (Frame c i)) (link c i) (alike (Frame c i))
    own_holds (Result r k) = alike (Result r k)
    own_holds (Device a) = alike (Device a)

    pub read_same : (b : Byte) → is_same (own_mark lent p here b) ≡ true → m b ≡ l b
    read_same b e = holds_same (own_mark lent p here b) (m b) (l b) e (own_holds b)

    pub number_same : (n : ℕ) (b : Byte) → agree lent p here b n ≡ true → number_in m b n ≡ number_in l b n
    number_same zero b e = refl
    number_same (suc n) b e =
        let parts = and_parts (is_same (own_mark lent p here b)) (agree lent p here (behind b 1) n) e in
        ap (λ (h : Held). with_low h (number_in m (behind b 1) n)) (read_same b parts.0) ∙ ap (with_low (l b)) (number_same n (behind b 1) parts.1)

    -- bytes that are 0 in the given program are the number 0
    pub none_above : (n : ℕ) (b : Byte) → cleared lent p here b n ≡ true → number_in m b n ≡ Some 0
    none_above zero b e = refl
    none_above (suc n) b e =
        let parts = and_parts (is_cleared (own_mark lent p here b)) (cleared lent p here (behind b 1) n) e in
        ap (λ (h : Held). with_low h (number_in m (behind b 1) n)) (holds_cleared (own_mark lent p here b) (m b) (l b) parts.0 (own_holds b)) ∙ ap (with_low (bytes.Number 0)) (none_above n (behind b 1) parts.1)

    pub pointer_same : (b : Byte) → agree lent p here b 2 ≡ true → pointer_in m b ≡ pointer_in l b
    unfolding pointer_in
    pointer_same b e =
        let first = and_parts (is_same (own_mark lent p here b)) (agree lent p here (behind b 1) 1) e in
        let second = and_parts (is_same (own_mark lent p here (behind b 1))) true first.1 in
        ap (λ (h : Held). joined h (m (behind b 1))) (read_same b first.0) ∙ ap (joined (l b)) (read_same (behind b 1) second.0)

    pointer_if_same : (t : Bool) (b : Byte) → (t ≡ true → agree lent p here b 2 ≡ true) → pointer_if t m b ≡ pointer_if t l b
    pointer_if_same true b e = pointer_same b (e refl)
    pointer_if_same false b e = refl

    of_two : (n : ℕ) (b : Byte) → agree lent p here b n ≡ true → nat_eq n 2 ≡ true → agree lent p here b 2 ≡ true
    of_two n b e two = subst (λ (z : ℕ). agree lent p here b z ≡ true) (eqb-true n 2 two) e

    pub value_same : (ty : IntTy) (b : Byte) → agree lent p here b (bytes_of ty) ≡ true → value_in ty m b ≡ value_in ty l b
    unfolding value_in
    value_same ty b e =
        rw (pointer_if_same (nat_eq (bytes_of ty) 2) b (of_two (bytes_of ty) b e), number_same (bytes_of ty) b e) refl

    pub truth_same : (size : ℕ) (b : Byte) → agree lent p here b size ≡ true → truth_in m b size ≡ truth_in l b size
    unfolding truth_in
    truth_same size b e =
        ap (λ (z : Option Place). truth_of z (number_in m b size)) (pointer_if_same (nat_eq size 2) b (of_two size b e)) ∙ ap (truth_of (pointer_if (nat_eq size 2) l b)) (number_same size b e)

pub ext : {A B : Type 0} (f g : A → B) → ((a : A) → f a ≡ g a) → f ≡ g
ext f g h = λ i a. h a i
