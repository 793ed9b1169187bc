-- What operations of byte code do, each in front of what follows it.
use Rattle.std.proofs.Common.{◌≡◌, ℕ, zero, suc, ◌+◌, ◌*◌, ◌<◌, ◌≤◌, Bool, true, false, ◌||◌, nat_eq, nat_le, List, [], ◌∷◌, ◌++◌, Option, refl, ap, ◌∙◌, subst, arith}
use Rattle.std.proofs.lemmas.Grind.{common_steps}
use Rattle.pic_world.specs.World.{World, arrived, is_due}
use Rattle.core_code.specs.Bytes.{Held, Memory, Number, is_private, with_byte, with_bytes}
use Rattle.core_code.specs.Cost.{step_most, step_least, cost_of, is_kept, least_of, leaving, one_if}
use Rattle.core_code.specs.Machine.{Setting, Machine, Task, Do, Put, Waiting, Program, Goes, goes, core_step, act, operate, put, memory_with, after_write, is_own, is_valid, is_others, may_hold, held_at, after_read}
use Rattle.core_code.specs.Tree as code
use Rattle.core_code.specs.Tree.{Tree, many, list_of, trees_of}
use Rattle.core_code.specs.declared.code.Byte.{Byte}
use Rattle.core_code.specs.declared.code.Byte.TheVariants.{Static, Frame, Result, Device}
use Rattle.core_puts.specs.Bytes as lower
use Rattle.core_puts.specs.Bytes.{beyond, byte_at}
use Rattle.core_puts.specs.Puts.{sets}
use Rattle.lower_trace.proofs.CodeLeft.{todo}
use Rattle.lower_trace.proofs.Placed.{Placed, front, other, todo_join, operates, most_operates, least_operates, does, most_does}
use Rattle.lower_trace.proofs.Walks.{Walk, stay, walk_first, walk_within}
use Rattle.lower_trace.proofs.Written.{nat_same, and_left, and_right, both}

-- The machine comes to one like this, at these costs.
pub record Comes (g : Setting) (T : Machine → Type 0) (q l : ℕ) (c : Machine) : Type 0 where
  pub count : ℕ
  pub place : Machine
  pub walk : Walk g count c place q l
  pub is : T place

pub comes_here : (g : Setting) (T : Machine → Type 0) (c : Machine) → T c → Comes g T 0 0 c
comes_here g T c t = record { count = 0; place = c; walk = stay g c; is = t }

pub comes_first : (g : Setting) (T : Machine → Type 0) (q l x y : ℕ) (c d : Machine) → core_step g c ≡ Goes d → step_most g c ≤ x → y ≤ step_least g c → Comes g T q l d → Comes g T (x + q) (y + l) c
comes_first g T q l x y c d e a b r = record { count = suc r.count; place = r.place; walk = walk_first g r.count c d r.place x y q l e a b r.walk; is = r.is }

pub comes_within : (g : Setting) (T : Machine → Type 0) (q l x y : ℕ) (c : Machine) → Comes g T q l c → q ≤ x → y ≤ l → Comes g T x y c
comes_within g T q l x y c r a b = record { count = r.count; place = r.place; walk = walk_within g r.count c r.place q l x y r.walk a b; is = r.is }

-- the same where nothing of the first step is sure
pub comes_free : (g : Setting) (T : Machine → Type 0) (q l x : ℕ) (c d : Machine) → core_step g c ≡ Goes d → step_most g c ≤ x → Comes g T q l d → Comes g T (x + q) l c
comes_free g T q l x c d e a r = comes_within g T (x + q) (0 + l) (x + q) l c (comes_first g T q l x 0 c d e a (omega arith) r) (omega arith) (omega arith)

pub beyond_is : (b n : ℕ) → b + n ≤ 65535 → beyond b n ≡ b + n
unfolding beyond
beyond_is b n le = grind (arith, common_steps)

pub le_true : (a b : ℕ) → a ≤ b → nat_le a b ≡ true
le_true a b h = grind (arith, common_steps)

pub true_le : (a b : ℕ) → nat_le a b ≡ true → a ≤ b
true_le a b h = grind (arith, common_steps)

-- ---- bytes that a body may write
pub own_frame : (q : Program) (n off k : ℕ) → off + k ≤ q.frame_bytes n → is_own q n (Frame n off) k ≡ true
unfolding is_own
own_frame q n off k le = both (nat_eq n n) (nat_le (off + k) (q.frame_bytes n)) (nat_same n) (le_true (off + k) (q.frame_bytes n) le)

-- an own byte is written at once, and makes no event
pub own_put : (q : Program) (x : Byte) (held : Held) (c : List Task) (n : ℕ) (a : Option ℕ) (s : List Waiting) (m : Memory) (w : World Held) → is_own q n x 1 ≡ true → put q x held c n a s m w ≡ goes c n a s (with_byte m x held) w
unfolding put is_own is_valid memory_with after_write
own_put q (Static i off) held c n a s m w e = absurd (cc)
own_put q (Frame d off) held c n a s m w e = let h = and_left (nat_eq d n) (nat_le (off + 1) (q.frame_bytes d)) e in let j = and_right (nat_eq d n) (nat_le (off + 1) (q.frame_bytes d)) e in rw (h, j) refl
own_put q (Result r k) held c n a s m w e = rw e refl
own_put q (Device r) held c n a s m w e = absurd (cc)

-- ---- bytes that the source has
-- a byte whose read may be an event is one
seen_kept : (variables : ℕ → ℕ) (y : Byte) → is_private y ≡ false → is_kept variables y ≡ true
seen_kept variables (Static i off) e = refl
seen_kept variables (Frame d off) e = absurd (cc)
seen_kept variables (Result r k) e = absurd (cc)
seen_kept variables (Device r) e = refl

pub or_first : (a b : Bool) → a ≡ true → (a || b) ≡ true
or_first true b e = refl
or_first false b e = absurd (cc)

pub or_second : (a b : Bool) → b ≡ true → (a || b) ≡ true
or_second true b e = refl
or_second false b e = e

-- of a copy of such a byte, or to one, an instruction is sure
pub read_sure : (variables : ℕ → ℕ) (x y : Byte) → is_kept variables y ≡ true → 1 ≤ one_if (is_kept variables x || is_kept variables y)
read_sure variables x y kept = let e = ap one_if (or_second (is_kept variables x) (is_kept variables y) kept) in omega arith

write_sure : (variables : ℕ → ℕ) (x y : Byte) → is_kept variables x ≡ true → 1 ≤ one_if (is_kept variables x || is_kept variables y)
write_sure variables x y kept = let e = ap one_if (or_first (is_kept variables x) (is_kept variables y) kept) in omega arith

-- w is the world with the arrivals, and no handler is due
module _ (g : Setting) (T : Machine → Type 0) (n : ℕ) (a : Option ℕ) (s : List Waiting) (w : World Held) (due : is_due w ≡ false) (again : arrived g.outside w ≡ w) where
  -- an operation that only changes memory
  pub first : (t : Tree) (r : List Task) (m m' : Memory) (c : Machine) (q l x y : ℕ) → Placed g n a (Do [] t ∷ r) s m w c
      → ((before : List Tree) (rest : List Task) (s' : List Waiting) → operate g before t rest n a s' m w ≡ goes rest n a s' m' w)
      → ((before : List Tree) (s' : List Waiting) → cost_of before t + leaving t s' ≤ x)
      → ((s' : List Waiting) → y ≤ least_of g.program t s')
      → ((d : Machine) → Placed g n a r s m' w d → Comes g T q l d) → Comes g T (x + q) (y + l) c
  first t r m m' c q l x y p runs most least next =
      let f = front c.code t r p.code in
      let d : Machine = record { copy = n; passing = a; code = f.rest; stack = c.stack; memory = m'; world = w } in
      let em = most_operates g n a (Do [] t ∷ r) s m w c p t r f due in
      let el = least_operates g n a (Do [] t ∷ r) s m w c p t r f due in
      let hm = most f.before c.stack in
      let hl = least c.stack in
      comes_first g T q l x y c d
      (operates g n a (Do [] t ∷ r) s m w c p t r f due ∙ runs f.before f.rest c.stack)
      (omega arith)
      (omega arith)
      (next d (record { copy = refl; passing = refl; code = f.behind; stack = p.stack; memory = refl; world = again }))

  -- the same where nothing of it is sure
  pub first_free : (t : Tree) (r : List Task) (m m' : Memory) (c : Machine) (q l x : ℕ) → Placed g n a (Do [] t ∷ r) s m w c
      → ((before : List Tree) (rest : List Task) (s' : List Waiting) → operate g before t rest n a s' m w ≡ goes rest n a s' m' w)
      → ((before : List Tree) (s' : List Waiting) → cost_of before t + leaving t s' ≤ x)
      → ((d : Machine) → Placed g n a r s m' w d → Comes g T q l d) → Comes g T (x + q) l c
  first_free t r m m' c q l x p runs most next = comes_within g T (x + q) (0 + l) (x + q) l c (first t r m m' c q l x 0 p runs most (λ s'. omega arith) next) (omega arith) (omega arith)

  -- A byte becomes a number: so much of it is sure.
  pub set_then : (off v : ℕ) (r : List Task) (m : Memory) (c : Machine) (q l y : ℕ) → y ≤ one_if (is_kept g.program.variable_bytes (Frame n off)) → off < g.program.frame_bytes n → Placed g n a (Do [] (code.Set (Frame n off) v) ∷ r) s m w c
      → ((d : Machine) → Placed g n a r s (with_byte m (Frame n off) (Number v)) w d → Comes g T q l d) → Comes g T (4 + q) (y + l) c
  unfolding operate cost_of
  set_then off v r m c q l y sure lt p next =
      first (code.Set (Frame n off) v) r m (with_byte m (Frame n off) (Number v)) c q l 4 y p
      (λ before rest s'. own_put g.program (Frame n off) (Number v) rest n a s' m w (own_frame g.program n off 1 (omega arith)))
      (λ before s'. omega arith)
      (λ s'. sure)
      next

  -- so many bytes become those of a number
  pub sets_then : (k b v : ℕ) (r : List Task) (m : Memory) (c : Machine) (q l : ℕ) → b + k ≤ g.program.frame_bytes n → g.program.frame_bytes n ≤ 65535 → Placed g n a (todo (sets (Frame n b) v k) r) s m w c → ((d : Machine) → Placed g n a r s (with_bytes m (Frame n b) k (λ i. Number (byte_at v i))) w d → Comes g T q l d) → Comes g T (4 * k + q) l c
  unfolding sets
  sets_then zero b v r m c q l le small p next = comes_within g T q l (4 * 0 + q) l c (next c p) (omega arith) (omega arith)
  sets_then (suc k) b v r m c q l le small p next =
      let here : lower.behind (Frame n b) k ≡ Frame n (b + k) = ap (Frame n) (beyond_is b k (omega arith)) in
      let split : todo (sets (Frame n b) v k ++ code.Set (lower.behind (Frame n b) k) (byte_at v k) ∷ []) r ≡ todo (sets (Frame n b) v k) (Do [] (code.Set (Frame n (b + k)) (byte_at v k)) ∷ r) =
      todo_join (sets (Frame n b) v k) (code.Set (lower.behind (Frame n b) k) (byte_at v k) ∷ []) r ∙ ap (λ x. todo (sets (Frame n b) v k) (Do [] (code.Set x (byte_at v k)) ∷ r)) here in
      comes_within g T (4 * k + (4 + q)) (0 + l) (4 * suc k + q) l c
      (sets_then k b v (Do [] (code.Set (Frame n (b + k)) (byte_at v k)) ∷ r) m c (4 + q) (0 + l) (omega arith) small (subst (λ x. Placed g n a x s m w c) split p)
      (λ d pd. set_then (b + k) (byte_at v k) r (with_bytes m (Frame n b) k (λ i. Number (byte_at v i))) d q l 0 (omega arith) (omega arith) pd next))
      (omega arith)
      (omega arith)

  -- A byte of a frame or a result becomes another one: so much of it is sure.
  pub copy_then : (x y : Byte) (r : List Task) (m : Memory) (c : Machine) (q l e : ℕ) → e ≤ one_if (is_kept g.program.variable_bytes x || is_kept g.program.variable_bytes y) → is_private y ≡ true → is_valid g.program n y ≡ true → is_own g.program n x 1 ≡ true
      → Placed g n a (Do [] (code.Copy x y) ∷ r) s m w c → ((d : Machine) → Placed g n a r s (with_byte m x (m y)) w d → Comes g T q l d) → Comes g T (6 + q) (e + l) c
  unfolding operate cost_of
  copy_then x y r m c q l e sure hidden valid own p next =
      first (code.Copy x y) r m (with_byte m x (m y)) c q l 6 e p
      (λ before rest s'. rw (valid, hidden) (own_put g.program x (m y) rest n a s' m w own))
      (λ before s'. rw hidden (omega arith))
      (λ s'. sure)
      next

  -- a byte that was read is written
  pub put_then : (x : Byte) (h : Held) (r : List Task) (m : Memory) (c : Machine) (q l : ℕ) → is_own g.program n x 1 ≡ true → Placed g n a (Put x h ∷ r) s m w c → ((d : Machine) → Placed g n a r s (with_byte m x h) w d → Comes g T q l d) → Comes g T (3 + q) l c
  unfolding act
  put_then x h r m c q l own p next =
      let f = other c.code (Put x h) r tt p.code in
      let d : Machine = record { copy = n; passing = a; code = f.rest; stack = c.stack; memory = with_byte m x h; world = w } in
      let em = most_does g n a (Put x h ∷ r) s m w c p (Put x h) r f due in
      comes_free g T q l 3 c d
      (does g n a (Put x h ∷ r) s m w c p (Put x h) r f due ∙ own_put g.program x h f.rest n a c.stack m w own)
      (omega arith)
      (next d (record { copy = refl; passing = refl; code = f.behind; stack = p.stack; memory = refl; world = again }))

  -- A byte of a static object or of a device register is read, which may be an event, and is written next.
  pub read_then : (x y : Byte) (r : List Task) (m : Memory) (c : Machine) → is_private y ≡ false → is_valid g.program n y ≡ true
      → Placed g n a (Do [] (code.Copy x y) ∷ r) s m w c → ((d : Machine) → Placed g n a (Put x (held_at g y m w) ∷ r) s m (arrived g.outside (after_read g y m w)) d → T d) → Comes g T 3 1 c
  unfolding operate cost_of
  read_then x y r m c seen valid p next =
      let f = front c.code (code.Copy x y) r p.code in
      let d : Machine = record { copy = n; passing = a; code = Put x (held_at g y m w) ∷ f.rest; stack = c.stack; memory = m; world = after_read g y m w } in
      let em = most_operates g n a (Do [] (code.Copy x y) ∷ r) s m w c p (code.Copy x y) r f due in
      let el = least_operates g n a (Do [] (code.Copy x y) ∷ r) s m w c p (code.Copy x y) r f due in
      let cheap : cost_of f.before (code.Copy x y) ≤ 3 = rw seen (omega arith) in
      let sure = read_sure g.program.variable_bytes x y (seen_kept g.program.variable_bytes y seen) in
      comes_within g T (3 + 0) (1 + 0) 3 1 c
      (comes_first g T 0 0 3 1 c d
      (operates g n a (Do [] (code.Copy x y) ∷ r) s m w c p (code.Copy x y) r f due ∙ rw (valid, seen) refl)
      (omega arith)
      (omega arith)
      (comes_here g T d (next d (record { copy = refl; passing = refl; code = ap (λ z. Put x (held_at g y m w) ∷ z) f.behind; stack = p.stack; memory = refl; world = refl }))))
      (omega arith)
      (omega arith)

  -- a byte of a frame or a result is written to any byte of the source that may be accessed by its name, which may be an event
  pub write_then : (x y : Byte) (r : List Task) (m : Memory) (c : Machine) → is_kept g.program.variable_bytes x ≡ true → is_private y ≡ true → is_valid g.program n y ≡ true → is_others n x ≡ false → is_valid g.program n x ≡ true → may_hold g.program x (m y) w ≡ true
      → Placed g n a (Do [] (code.Copy x y) ∷ r) s m w c → ((d : Machine) → Placed g n a r s (memory_with x (m y) m) (arrived g.outside (after_write x (m y) w)) d → T d) → Comes g T 6 1 c
  unfolding operate cost_of put
  write_then x y r m c kept hidden valid own there may p next =
      let f = front c.code (code.Copy x y) r p.code in
      let d : Machine = record { copy = n; passing = a; code = f.rest; stack = c.stack; memory = memory_with x (m y) m; world = after_write x (m y) w } in
      let em = most_operates g n a (Do [] (code.Copy x y) ∷ r) s m w c p (code.Copy x y) r f due in
      let el = least_operates g n a (Do [] (code.Copy x y) ∷ r) s m w c p (code.Copy x y) r f due in
      let cheap : cost_of f.before (code.Copy x y) ≤ 6 = rw hidden (omega arith) in
      let sure = write_sure g.program.variable_bytes x y kept in
      comes_within g T (6 + 0) (1 + 0) 6 1 c
      (comes_first g T 0 0 6 1 c d
      (operates g n a (Do [] (code.Copy x y) ∷ r) s m w c p (code.Copy x y) r f due ∙ rw (valid, hidden, own, there, may) refl)
      (omega arith)
      (omega arith)
      (comes_here g T d (next d (record { copy = refl; passing = refl; code = f.behind; stack = p.stack; memory = refl; world = refl }))))
      (omega arith)
      (omega arith)
