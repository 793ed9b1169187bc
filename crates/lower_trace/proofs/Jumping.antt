-- What operations of control do, each in front of what follows it.
use Rattle.std.proofs.Common.{◌≡◌, ℕ, zero, suc, ◌+◌, ◌*◌, Bool, true, false, List, [], ◌∷◌, Option, Some, refl, ap, ◌∙◌, arith}
use Rattle.pic_world.specs.World.{World, arrived, is_due}
use Rattle.core_code.specs.Bytes.{Held, Memory}
use Rattle.core_code.specs.Cost.{cost_of}
use Rattle.core_code.specs.Machine.{Setting, Machine, Task, Do, Join, Waiting, InLoop, InCall, InHandler, goes, act, operate, is_own, tasks, exit, at_end, when, chosen}
use Rattle.core_code.specs.Values.{truth_in}
use Rattle.core_code.specs.Tree as code
use Rattle.core_code.specs.Tree.{Tree, many, list_of, trees_of}
use Rattle.core_code.specs.declared.code.Byte.{Byte}
use Rattle.lower_trace.proofs.CodeLeft.{todo, plain, plain_behind, joins}
use Rattle.lower_trace.proofs.Operations.{Comes, comes_first, comes_within}
use Rattle.lower_trace.proofs.Placed.{Placed, front, other, plain_tasks, list_again, operates, most_operates, least_operates, does, most_does, least_does, ends, most_ends, least_ends}

-- ---- stacks without what stands before operations
pub record LoopOn (s : List Waiting) (body : Tree) (r : List Task) (k : List Waiting) : Type 0 where
  pub code : List Task
  pub rest : List Waiting
  pub is : s ≡ InLoop body code ∷ rest
  pub behind : plain code ≡ r
  pub below : plain_behind rest ≡ k

abbrev top_or : List Waiting → Waiting
top_or [] = InCall 0 []
top_or (x ∷ s) = x

abbrev rest_or : List Waiting → List Waiting
rest_or [] = []
rest_or (x ∷ s) = s

abbrev loop_body_or : Tree → Waiting → Tree
loop_body_or t (InLoop body c) = body
loop_body_or t (InCall p c) = t
loop_body_or t (InHandler p a c) = t

abbrev code_or : Waiting → List Task
code_or (InLoop body c) = c
code_or (InCall p c) = c
code_or (InHandler p a c) = c

pub loop_on : (s : List Waiting) (body : Tree) (r : List Task) (k : List Waiting) → plain_behind s ≡ InLoop body r ∷ k → LoopOn s body r k
loop_on [] body r k e = absurd (cc)
loop_on (InLoop b c ∷ s) body r k e =
    let q : b ≡ body = ap (λ x. loop_body_or b (top_or x)) e in
    record { code = c; rest = s; is = ap (λ x. InLoop x c ∷ s) q; behind = ap (λ x. code_or (top_or x)) e; below = ap rest_or e }
loop_on (InCall p c ∷ s) body r k e = absurd (cc)
loop_on (InHandler p a c ∷ s) body r k e = absurd (cc)

abbrev copy_or : ℕ → Waiting → ℕ
copy_or n (InLoop body c) = n
copy_or n (InCall p c) = p
copy_or n (InHandler p a c) = p

abbrev pass_or : Option ℕ → Waiting → Option ℕ
pass_or n (InLoop body c) = n
pass_or n (InCall p c) = n
pass_or n (InHandler p a c) = a

pub record CallOn (s : List Waiting) (n : ℕ) (r : List Task) (k : List Waiting) : Type 0 where
  pub code : List Task
  pub rest : List Waiting
  pub is : s ≡ InCall n code ∷ rest
  pub behind : plain code ≡ r
  pub below : plain_behind rest ≡ k

pub call_on : (s : List Waiting) (n : ℕ) (r : List Task) (k : List Waiting) → plain_behind s ≡ InCall n r ∷ k → CallOn s n r k
call_on [] n r k e = absurd (cc)
call_on (InLoop b c ∷ s) n r k e = absurd (cc)
call_on (InCall p c ∷ s) n r k e = let q : p ≡ n = ap (λ x. copy_or p (top_or x)) e in record { code = c; rest = s; is = ap (λ x. InCall x c ∷ s) q; behind = ap (λ x. code_or (top_or x)) e; below = ap rest_or e }
call_on (InHandler p a c ∷ s) n r k e = absurd (cc)

pub record HandlerOn (s : List Waiting) (n : ℕ) (a : Option ℕ) (r : List Task) (k : List Waiting) : Type 0 where
  pub code : List Task
  pub rest : List Waiting
  pub is : s ≡ InHandler n a code ∷ rest
  pub behind : plain code ≡ r
  pub below : plain_behind rest ≡ k

pub handler_on : (s : List Waiting) (n : ℕ) (a : Option ℕ) (r : List Task) (k : List Waiting) → plain_behind s ≡ InHandler n a r ∷ k → HandlerOn s n a r k
handler_on [] n a r k e = absurd (cc)
handler_on (InLoop b c ∷ s) n a r k e = absurd (cc)
handler_on (InCall p c ∷ s) n a r k e = absurd (cc)
handler_on (InHandler p b c ∷ s) n a r k e =
    let q : p ≡ n = ap (λ x. copy_or p (top_or x)) e in
    let d : b ≡ a = ap (λ x. pass_or b (top_or x)) e in
    record { code = c; rest = s; is = ap (λ x. InHandler x b c ∷ s) q ∙ ap (λ x. InHandler n x c ∷ s) d; behind = ap (λ x. code_or (top_or x)) e; below = ap rest_or e }

pub none_on : (s : List Waiting) → plain_behind s ≡ [] → s ≡ []
none_on [] e = refl
none_on (InLoop b c ∷ s) e = absurd (cc)
none_on (InCall p c ∷ s) e = absurd (cc)
none_on (InHandler p a c ∷ s) e = absurd (cc)

abbrev pub picked : Bool → Tree → Tree → Tree
picked true first second = first
picked false first second = second

module _ (g : Setting) (T : Machine → Type 0) (n : ℕ) (a : Option ℕ) (w : World Held) (due : is_due w ≡ false) (again : arrived g.outside w ≡ w) where
  -- several operations as one
  pub many_then : (ts : List Tree) (r : List Task) (s : List Waiting) (m : Memory) (c : Machine) (q l : ℕ) → Placed g n a (Do [] (many ts) ∷ r) s m w c → ((d : Machine) → Placed g n a (todo ts r) s m w d → Comes g T q l d) → Comes g T q l c
  unfolding operate cost_of
  many_then ts r s m c q l p next =
      let f = front c.code (many ts) r p.code in
      let d : Machine = record { copy = n; passing = a; code = tasks [] (list_of (trees_of ts)) f.rest; stack = c.stack; memory = m; world = w } in
      let em = most_operates g n a (Do [] (many ts) ∷ r) s m w c p (many ts) r f due in
      let el = least_operates g n a (Do [] (many ts) ∷ r) s m w c p (many ts) r f due in
      comes_within g T (0 + q) (0 + l) q l c
      (comes_first g T q l 0 0 c d (operates g n a (Do [] (many ts) ∷ r) s m w c p (many ts) r f due) (omega arith) (omega arith)
      (next d (record { copy = refl; passing = refl; code = plain_tasks [] (list_of (trees_of ts)) f.rest ∙ ap (λ x. todo x (plain f.rest)) (list_again ts) ∙ ap (todo ts) f.behind; stack = p.stack; memory = refl; world = again })))
      (omega arith) (omega arith)

  pub loop_then : (body : Tree) (r : List Task) (s : List Waiting) (m : Memory) (c : Machine) (q l : ℕ) → Placed g n a (Do [] (code.Loop body) ∷ r) s m w c → ((d : Machine) → Placed g n a (Do [] body ∷ []) (InLoop body r ∷ s) m w d → Comes g T q l d) → Comes g T q l c
  unfolding operate cost_of
  loop_then body r s m c q l p next =
      let f = front c.code (code.Loop body) r p.code in
      let d : Machine = record { copy = n; passing = a; code = Do [] body ∷ []; stack = InLoop body f.rest ∷ c.stack; memory = m; world = w } in
      let em = most_operates g n a (Do [] (code.Loop body) ∷ r) s m w c p (code.Loop body) r f due in
      let el = least_operates g n a (Do [] (code.Loop body) ∷ r) s m w c p (code.Loop body) r f due in
      comes_within g T (0 + q) (0 + l) q l c
      (comes_first g T q l 0 0 c d (operates g n a (Do [] (code.Loop body) ∷ r) s m w c p (code.Loop body) r f due) (omega arith) (omega arith)
      (next d (record { copy = refl; passing = refl; code = refl; stack = ap (λ x. InLoop body x ∷ plain_behind c.stack) f.behind ∙ ap (λ x. InLoop body r ∷ x) p.stack; memory = refl; world = again })))
      (omega arith) (omega arith)

  pub join_then : (r : List Task) (s : List Waiting) (m : Memory) (c : Machine) (q l : ℕ) → Placed g n a (Join ∷ r) s m w c → ((d : Machine) → Placed g n a r s m w d → Comes g T q l d) → Comes g T (4 + q) l c
  unfolding act
  join_then r s m c q l p next =
      let f = other c.code Join r tt p.code in
      let d : Machine = record { copy = n; passing = a; code = f.rest; stack = c.stack; memory = m; world = w } in
      let em = most_does g n a (Join ∷ r) s m w c p Join r f due in
      let el = least_does g n a (Join ∷ r) s m w c p Join r f due in
      comes_within g T (4 + q) (0 + l) (4 + q) l c
      (comes_first g T q l 4 0 c d (does g n a (Join ∷ r) s m w c p Join r f due) (omega arith) (omega arith)
      (next d (record { copy = refl; passing = refl; code = f.behind; stack = p.stack; memory = refl; world = again })))
      (omega arith) (omega arith)

  -- the ends of several choices
  pub joins_then : (i : ℕ) (r : List Task) (s : List Waiting) (m : Memory) (c : Machine) (q l : ℕ) → Placed g n a (joins i r) s m w c → ((d : Machine) → Placed g n a r s m w d → Comes g T q l d) → Comes g T (4 * i + q) l c
  joins_then zero r s m c q l p next = comes_within g T q l (4 * 0 + q) l c (next c p) (omega arith) (omega arith)
  joins_then (suc i) r s m c q l p next =
      comes_within g T (4 + (4 * i + q)) l (4 * suc i + q) l c
      (join_then (joins i r) s m c (4 * i + q) l p (λ d pd. joins_then i r s m d q l pd next))
      (omega arith) (omega arith)

  -- the end of a loop's body
  pub end_then : (body : Tree) (r : List Task) (s : List Waiting) (m : Memory) (c : Machine) (q l : ℕ) → Placed g n a [] (InLoop body r ∷ s) m w c → ((d : Machine) → Placed g n a (Do [] body ∷ []) (InLoop body r ∷ s) m w d → Comes g T q l d) → Comes g T (4 + q) (1 + l) c
  unfolding act
  end_then body r s m c q l p next =
      let o = loop_on c.stack body r s p.stack in
      let d : Machine = record { copy = n; passing = a; code = Do [] body ∷ []; stack = InLoop body o.code ∷ o.rest; memory = m; world = w } in
      let em = most_ends g n a [] (InLoop body r ∷ s) m w c p refl due in
      let el = least_ends g n a [] (InLoop body r ∷ s) m w c p refl due in
      comes_first g T q l 4 1 c d
      (ends g n a [] (InLoop body r ∷ s) m w c p refl due ∙ ap (λ x. at_end n a x m w) o.is)
      (omega arith) (omega arith)
      (next d (record { copy = refl; passing = refl; code = refl; stack = ap (λ x. InLoop body x ∷ plain_behind o.rest) o.behind ∙ ap (λ x. InLoop body r ∷ x) o.below; memory = refl; world = again }))

  -- the innermost loop is left
  pub exit_then : (body : Tree) (x r : List Task) (s : List Waiting) (m : Memory) (c : Machine) (q l : ℕ) → Placed g n a (Do [] (code.Exit 0) ∷ x) (InLoop body r ∷ s) m w c → ((d : Machine) → Placed g n a r s m w d → Comes g T q l d) → Comes g T (4 + q) l c
  unfolding operate cost_of
  exit_then body x r s m c q l p next =
      let f = front c.code (code.Exit 0) x p.code in
      let o = loop_on c.stack body r s p.stack in
      let d : Machine = record { copy = n; passing = a; code = o.code; stack = o.rest; memory = m; world = w } in
      let em = most_operates g n a (Do [] (code.Exit 0) ∷ x) (InLoop body r ∷ s) m w c p (code.Exit 0) x f due in
      let el = least_operates g n a (Do [] (code.Exit 0) ∷ x) (InLoop body r ∷ s) m w c p (code.Exit 0) x f due in
      comes_within g T (4 + q) (0 + l) (4 + q) l c
      (comes_first g T q l 4 0 c d
      (operates g n a (Do [] (code.Exit 0) ∷ x) (InLoop body r ∷ s) m w c p (code.Exit 0) x f due ∙ ap (λ y. exit 0 n a y m w) o.is)
      (omega arith) (omega arith)
      (next d (record { copy = refl; passing = refl; code = o.behind; stack = o.below; memory = refl; world = again })))
      (omega arith) (omega arith)

  choice_of : (held : Bool) (r : List Task) (s : List Waiting) (first second : Tree) (m : Memory) → chosen (Some held) first second r n a s m w ≡ goes (Do [] (picked held first second) ∷ Join ∷ r) n a s m w
  choice_of true r s first second m = refl
  choice_of false r s first second m = refl

  -- A choice: the test's bytes are own ones, and are a value.
  pub if_then : (test : Byte) (size : ℕ) (held : Bool) (first second : Tree) (r : List Task) (s : List Waiting) (m : Memory) (c : Machine) (q l : ℕ) → is_own g.program n test size ≡ true → truth_in m test size ≡ Some held
      → Placed g n a (Do [] (code.If test size first second) ∷ r) s m w c → ((d : Machine) → Placed g n a (Do [] (picked held first second) ∷ Join ∷ r) s m w d → Comes g T q l d) → Comes g T (4 * size + 16 + q) (1 + l) c
  unfolding operate cost_of
  if_then test size held first second r s m c q l own truth p next =
      let t = code.If test size first second in
      let f = front c.code t r p.code in
      let d : Machine = record { copy = n; passing = a; code = Do [] (picked held first second) ∷ Join ∷ f.rest; stack = c.stack; memory = m; world = w } in
      let em = most_operates g n a (Do [] t ∷ r) s m w c p t r f due in
      let el = least_operates g n a (Do [] t ∷ r) s m w c p t r f due in
      comes_first g T q l (4 * size + 16) 1 c d
      (operates g n a (Do [] t ∷ r) s m w c p t r f due ∙ ap (λ x. when x (chosen (truth_in m test size) first second f.rest n a c.stack m w)) own ∙ ap (λ x. chosen x first second f.rest n a c.stack m w) truth ∙ choice_of held f.rest c.stack first second m)
      (omega arith) (omega arith)
      (next d (record { copy = refl; passing = refl; code = ap (λ x. Do [] (picked held first second) ∷ Join ∷ x) f.behind; stack = p.stack; memory = refl; world = again }))
