-- Loops that are left or begun again from inside other loops.
use Rattle.std.proofs.Common.{◌≡◌, ℕ, zero, suc, ◌+◌, false, List, [], ◌∷◌, length, drop, Option, Some, refl, ap, ◌∙◌, arith}
use Rattle.std.specs.Prelude.{slice_get, unwrap_or}
use Rattle.pic_world.specs.World.{World, arrived, is_due}
use Rattle.core_code.specs.Bytes.{Held, Memory}
use Rattle.core_code.specs.Cost.{cost_of}
use Rattle.core_code.specs.Machine.{Setting, Machine, Task, Waiting, Do as Todo, InLoop, goes, exit, again, operate}
use Rattle.core_code.specs.Tree as code
use Rattle.core_code.specs.Tree.{Tree}
use Rattle.lower_trace.proofs.CodeLeft.{Looped, stacked, plain, plain_behind}
use Rattle.lower_trace.proofs.Jumping.{loop_on}
use Rattle.lower_trace.proofs.Operations.{Comes, comes_first, comes_within}
use Rattle.lower_trace.proofs.Placed.{Placed, front, operates, most_operates, least_operates}

-- The loop that is so many loops out is left: what follows it, and what waits below.
pub record Exits (m : ℕ) (r : List Task) (k s : List Waiting) : Type 0 where
  pub code : List Task
  pub rest : List Waiting
  pub leads : (n : ℕ) (a : Option ℕ) (memory : Memory) (w : World Held) → exit m n a s memory w ≡ goes code n a rest memory w
  pub behind : plain code ≡ r
  pub below : plain_behind rest ≡ k

-- It is begun again.
pub record Repeated (m : ℕ) (body : Tree) (r : List Task) (k s : List Waiting) : Type 0 where
  pub code : List Task
  pub rest : List Waiting
  pub leads : (n : ℕ) (a : Option ℕ) (memory : Memory) (w : World Held) → again m n a s memory w ≡ goes (Todo [] body ∷ []) n a (InLoop body code ∷ rest) memory w
  pub behind : plain code ≡ r
  pub below : plain_behind rest ≡ k

-- one of these loops
pub exit_at : (xs : List Looped) (m : ℕ) (x : Looped) (k s : List Waiting) → slice_get xs m ≡ Some x → plain_behind s ≡ stacked xs k → Exits m x.code (stacked (drop (suc m) xs) k) s
exit_at [] m x k s e p = absurd (cc)
exit_at (y ∷ xs) zero x k s e p =
    let o = loop_on s y.body y.code (stacked xs k) p in
    let same : y ≡ x = ap (λ z. unwrap_or z y) e in
    record { code = o.code; rest = o.rest; leads = λ n a memory w. ap (λ z. exit 0 n a z memory w) o.is; behind = o.behind ∙ ap (λ z. z.code) same; below = o.below }
exit_at (y ∷ xs) (suc m) x k s e p =
    let o = loop_on s y.body y.code (stacked xs k) p in
    let t = exit_at xs m x k o.rest e o.below in
    record { code = t.code; rest = t.rest; leads = λ n a memory w. ap (λ z. exit (suc m) n a z memory w) o.is ∙ t.leads n a memory w; behind = t.behind; below = t.below }

-- the loop round all of these
pub exit_past : (xs : List Looped) (body : Tree) (r : List Task) (k s : List Waiting) → plain_behind s ≡ stacked xs (InLoop body r ∷ k) → Exits (length xs) r k s
exit_past [] body r k s p =
    let o = loop_on s body r k p in
    record { code = o.code; rest = o.rest; leads = λ n a memory w. ap (λ z. exit 0 n a z memory w) o.is; behind = o.behind; below = o.below }
exit_past (x ∷ xs) body r k s p =
    let o = loop_on s x.body x.code (stacked xs (InLoop body r ∷ k)) p in
    let t = exit_past xs body r k o.rest o.below in
    record { code = t.code; rest = t.rest; leads = λ n a memory w. ap (λ z. exit (suc (length xs)) n a z memory w) o.is ∙ t.leads n a memory w; behind = t.behind; below = t.below }

pub again_past : (xs : List Looped) (body : Tree) (r : List Task) (k s : List Waiting) → plain_behind s ≡ stacked xs (InLoop body r ∷ k) → Repeated (length xs) body r k s
again_past [] body r k s p =
    let o = loop_on s body r k p in
    record { code = o.code; rest = o.rest; leads = λ n a memory w. ap (λ z. again 0 n a z memory w) o.is; behind = o.behind; below = o.below }
again_past (x ∷ xs) body r k s p =
    let o = loop_on s x.body x.code (stacked xs (InLoop body r ∷ k)) p in
    let t = again_past xs body r k o.rest o.below in
    record { code = t.code; rest = t.rest; leads = λ n a memory w. ap (λ z. again (suc (length xs)) n a z memory w) o.is ∙ t.leads n a memory w; behind = t.behind; below = t.below }

module _ (g : Setting) (T : Machine → Type 0) (n : ℕ) (a : Option ℕ) (w : World Held) (due : is_due w ≡ false) (now : arrived g.outside w ≡ w) where
  pub exits_then : (m : ℕ) (x r : List Task) (s k : List Waiting) (memory : Memory) (c : Machine) (q l : ℕ) → Placed g n a (Todo [] (code.Exit m) ∷ x) s memory w c → Exits m r k c.stack → ((d : Machine) → Placed g n a r k memory w d → Comes g T q l d) → Comes g T (4 + q) l c
  unfolding operate cost_of
  exits_then m x r s k memory c q l p o next =
      let f = front c.code (code.Exit m) x p.code in
      let d : Machine = record { copy = n; passing = a; code = o.code; stack = o.rest; memory = memory; world = w } in
      let em = most_operates g n a (Todo [] (code.Exit m) ∷ x) s memory w c p (code.Exit m) x f due in
      let el = least_operates g n a (Todo [] (code.Exit m) ∷ x) s memory w c p (code.Exit m) x f due in
      comes_within g T (4 + q) (0 + l) (4 + q) l c
      (comes_first g T q l 4 0 c d
      (operates g n a (Todo [] (code.Exit m) ∷ x) s memory w c p (code.Exit m) x f due ∙ o.leads n a memory w)
      (omega arith) (omega arith)
      (next d (record { copy = refl; passing = refl; code = o.behind; stack = o.below; memory = refl; world = now })))
      (omega arith) (omega arith)

  pub repeats_then : (m : ℕ) (body : Tree) (x r : List Task) (s k : List Waiting) (memory : Memory) (c : Machine) (q l : ℕ) → Placed g n a (Todo [] (code.Again m) ∷ x) s memory w c → Repeated m body r k c.stack → ((d : Machine) → Placed g n a (Todo [] body ∷ []) (InLoop body r ∷ k) memory w d → Comes g T q l d) → Comes g T (4 + q) (1 + l) c
  unfolding operate cost_of
  repeats_then m body x r s k memory c q l p o next =
      let f = front c.code (code.Again m) x p.code in
      let d : Machine = record { copy = n; passing = a; code = Todo [] body ∷ []; stack = InLoop body o.code ∷ o.rest; memory = memory; world = w } in
      let em = most_operates g n a (Todo [] (code.Again m) ∷ x) s memory w c p (code.Again m) x f due in
      let el = least_operates g n a (Todo [] (code.Again m) ∷ x) s memory w c p (code.Again m) x f due in
      comes_first g T q l 4 1 c d
      (operates g n a (Todo [] (code.Again m) ∷ x) s memory w c p (code.Again m) x f due ∙ o.leads n a memory w)
      (omega arith) (omega arith)
      (next d (record { copy = refl; passing = refl; code = refl; stack = ap (λ y. InLoop body y ∷ plain_behind o.rest) o.behind ∙ ap (λ y. InLoop body r ∷ y) o.below; memory = refl; world = now }))
