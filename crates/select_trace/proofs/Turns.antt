-- From what the code of an operator does to what selection asks of it.
use Rattle.std.proofs.Common.{◌≡◌, ℕ, ◌+◌, ◌<◌, ◌≤◌, true, List, [], ◌∷◌, ◌++◌, length, drop, take, Option, Some, None, refl, sym, ap, ◌∙◌, subst, arith}
use Rattle.pic_world.specs.World.{World}
use Rattle.pic_world.specs.declared.Root.{Root}
use Rattle.core_code.specs.Bytes as bytes
use Rattle.core_code.specs.Bytes.{Held, behind, with_bytes}
use Rattle.core_code.specs.Machine.{Waiting, is_own}
use Rattle.core_code.specs.declared.code.Byte.{Byte}
use Rattle.math_helpers.specs.Shape.{is_straight, sum_from}
use Rattle.math_helpers.specs.Wanted.{byte_at}
use Rattle.sym_code.specs.Effect.{Setting, Memory, root_of}
use Rattle.sym_code.specs.Layout.{frame}
use Rattle.sym_code.specs.Machine.{Machine}
use Rattle.sym_code.specs.Programs.{Position, position, stand}
use Rattle.sym_code.specs.Quiet.{Scene, quiet_cost}
use Rattle.sym_code.specs.Registers.{Registers, Fits}
use Rattle.sym_code.specs.declared.code.BlockName.TheVariants.{Copy}
use Rattle.sym_code.specs.declared.code.PlainOperation.TheVariants as plains
use Rattle.sym_code.specs.declared.code.Sym.{Sym}
use Rattle.sym_code.specs.declared.code.Sym.TheVariants as syms
use Rattle.select_wide.specs.Direct.{direct_run}
use Rattle.select_trace.proofs.Standing.{Has}
use Rattle.select_trace.proofs.Sites.{Site, layout}
use Rattle.select_trace.proofs.Live.{IsUser, user_below, is_live, below, chain_user, one_to_one}
use Rattle.select_trace.proofs.Memory.{Shown}
use Rattle.select_trace.proofs.Blocks.{block}
use Rattle.select_trace.proofs.Relation.{place}
use Rattle.select_trace.proofs.Steps.{Fit}
use Rattle.select_trace.proofs.Values.{scene, Arrives, computes_arrive}
use Rattle.select_trace.specs.Operators.{Computes}
use Rattle.select_trace.specs.Silent.{number_at, OwnsBytes, IsIn, AreStraight, Begins}
use Rattle.select_trace.proofs.Names.{IsOwnOne}
use Rattle.select_trace.proofs.Lengths.{near_own}
use Rattle.select_trace.proofs.Setup.{slot_is, owns, has_drop, behind_lands}

take_front : (xs ys : List Sym) → take (length xs) (xs ++ ys) ≡ xs
take_front [] ys = refl
take_front (x ∷ xs) ys = ap (λ (zs : List Sym). x ∷ zs) (take_front xs ys)

-- what the code costs with its selects
pub cost_of : (s : Site) (f : ℕ) → IsUser s f → (root : Root) (n : ℕ) (list : List Sym) → Has (block s f) n list → AreStraight (λ b. IsIn root f (s.q.frame_bytes f) b 1) list → is_straight list ≡ true → sum_from (s.price (Copy f)) n list ≤ length list + 2
cost_of s f u root n list h all straight =
    let fits : s.q.frame_bytes f ≤ (frame (layout s) f).size = s.chosen.layout.frame_sizes f (user_below s f u) in
    (s.chosen.prices f u.copy u.there u.user).near n list (ap (take (length list)) (has_drop (block s f) n list h) ∙ take_front list (drop (n + length list) (block s f))) straight f
    (near_own root f (s.q.frame_bytes f) (frame (layout s) f).size fits list all)

-- ---- where an operation begins
module _ (s : Site) (t : Machine) (wc : World Held) (f : ℕ) (pr : Option ℕ) (st : List Waiting) (loops : List ℕ) (ps : List Position) (cm : bytes.Memory) (m : Memory) (fit : Fit s t wc f pr st loops ps cm m) (r : Registers) (fits : Fits r) where
  pub user : IsUser s f
  user = chain_user s f st fit.chain

  pub own : OwnsBytes s.g wc.inside f (s.q.frame_bytes f)
  own = owns s wc.inside f user fit.root

  pub begins : (n : ℕ) (list : List Sym) → 0 < length list → AreStraight (IsOwnOne wc.inside f (s.q.frame_bytes f)) list → Has (block s f) n list → Begins s.g (Copy f) n list (scene s f n ps r m)
  begins n list some all h = record {
    behind = drop (n + length list) (block s f);
    there = has_drop (block s f) n list h;
    lands = behind_lands s f user (IsOwnOne wc.inside f (s.q.frame_bytes f)) list n some all h;
    at = refl;
    rest = refl;
    registers = fits;
    bytes = fit.bytes;
  }

  -- what has come of it
  pub turned : (n hi : ℕ) (list : List Sym) (to : Byte) (count answer : ℕ) (held : ℕ → Held) → Has (block s f) n list → AreStraight (IsOwnOne wc.inside f (s.q.frame_bytes f)) list → is_straight list ≡ true → length list + 2 ≤ hi →
      Computes s.g s.price wc.inside (Copy f) n list to count answer (scene s f n ps r m) → ((k : ℕ) → k < count → Shown s (held k) (byte_at answer k)) → is_own s.q f to count ≡ true →
      Arrives s wc.inside (is_live f pr (below st)) f ps n r m (n + length list) (with_bytes cm to count held) hi
  turned n hi list to count answer held h all straight le c shows own_to =
      let end : Scene = c.passes.end in
      let a : sum_from (s.price (Copy f)) n list ≤ length list + 2 = cost_of s f user (root_of wc.inside) n list h all straight in
      let q : quiet_cost s.g s.price wc.inside c.passes.count (scene s f n ps r m) ≤ sum_from (s.price (Copy f)) n list = c.passes.cost in
      computes_arrive s wc.inside f pr (below st) ps n r m (n + length list) cm to count held hi (one_to_one s f pr st fit.passing fit.chain) fit.agree own_to (record {
        steps = c.passes.count;
        registers = end.thread.registers;
        memory = end.memory;
        run = c.passes.run ∙ ended end c.passes.rest c.passes.at c.passes.stack;
        fits = c.passes.fits;
        bytes = c.passes.bytes;
        shows = λ k lt. subst (λ v. Shown s (held k) v) (sym (c.bytes k lt) ∙ ap end.memory (sym (slot_is (layout s) (behind to k)))) (shows k lt);
        others = λ j no. c.others j (λ k lt e. no k lt (e ∙ sym (slot_is (layout s) (behind to k))));
        cost = omega arith;
      })
    where
      ended : (end : Scene) → end.thread.rest ≡ None → end.thread.at ≡ Some (stand s.g.program (position (Copy f) (n + length list))) → end.thread.stack ≡ ps → Some end ≡ Some (scene s f (n + length list) ps end.thread.registers end.memory)
      ended end e1 e2 e3 =
          ap (λ o. Some (record { thread = record end.thread { rest = o }; memory = end.memory })) e1
          ∙ ap (λ (o : Option Position). Some (record { thread = record end.thread { rest = None; at = o }; memory = end.memory })) e2
          ∙ ap (λ (o : List Position). Some (record { thread = record end.thread { rest = None; at = Some (place s f (n + length list)); stack = o }; memory = end.memory })) e3

  -- ---- no code
  -- the same bytes, where nothing but a return stands
  abbrev pub bare : Setting
  bare = record s.g { program = record s.g.program { block = λ b. syms.Plain plains.Return ∷ [] } }

  abbrev pub bare_scene : Scene
  bare_scene = record { thread = record { rest = None; at = Some (stand bare.program (position (Copy f) 0)); stack = ps; registers = r }; memory = m }

  pub bare_own : OwnsBytes bare wc.inside f (s.q.frame_bytes f)
  bare_own = record { banks = own.banks; whole = own.whole; own = own.own; results = own.results }

  pub bare_begins : (list : List Sym) → list ≡ [] → Begins bare (Copy f) 0 list bare_scene
  unfolding stand
  bare_begins list e = subst (λ (x : List Sym). Begins bare (Copy f) 0 x bare_scene) (sym e) (record {
    behind = syms.Plain plains.Return ∷ [];
    there = refl;
    lands = refl;
    at = refl;
    rest = refl;
    registers = fits;
    bytes = fit.bytes;
  })

  pub unmoved : (n hi : ℕ) (list : List Sym) (to : Byte) (count answer : ℕ) (held : ℕ → Held) → list ≡ [] → Computes bare s.price wc.inside (Copy f) 0 list to count answer bare_scene → ((k : ℕ) → k < count → Shown s (held k) (byte_at answer k)) → is_own s.q f to count ≡ true →
      Arrives s wc.inside (is_live f pr (below st)) f ps n r m (n + length list) (with_bytes cm to count held) hi
  unfolding direct_run quiet_cost
  unmoved n hi list to count answer held e c shows own_to =
      let few : c.passes.count ≤ length list = c.passes.few in
      let len : length list ≡ 0 = ap length e in
      let zero_steps : c.passes.count ≡ 0 = omega arith in
      let end : Some bare_scene ≡ Some c.passes.end = ap (λ k. direct_run bare wc.inside k bare_scene) (sym zero_steps) ∙ c.passes.run in
      let same : (k : ℕ) → k < count → m (number_at (layout s) (behind to k)) ≡ byte_at answer k = λ k lt. ap (λ (x : Scene). x.memory (number_at (layout s) (behind to k))) (inside end) ∙ c.bytes k lt in
      computes_arrive s wc.inside f pr (below st) ps n r m (n + length list) cm to count held hi (one_to_one s f pr st fit.passing fit.chain) fit.agree own_to (record {
        steps = 0;
        registers = r;
        memory = m;
        run = ap (λ k. Some (scene s f k ps r m)) (let z : n ≡ n + length list = omega arith in z);
        fits = fits;
        bytes = fit.bytes;
        shows = λ k lt. subst (λ v. Shown s (held k) v) (sym (same k lt) ∙ ap m (sym (slot_is (layout s) (behind to k)))) (shows k lt);
        others = λ j no. refl;
        cost = omega arith;
      })
    where
      inside : {a b : Scene} → Some a ≡ Some b → a ≡ b
      inside e = cc
