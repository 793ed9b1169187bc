-- What operations that are no jump, and no list, are as plain data.
use Rattle.std.proofs.Common.{◌≡◌, ℕ, List, None, false, refl, sym, ap, ◌∙◌}
use Rattle.core_code.specs.declared.code.Core.{Core}
use Rattle.core_code.specs.declared.code.Core.TheVariants as Core
use Rattle.core_code.specs.declared.code.Core.TheOpen as Open
use Rattle.core_code.specs.declared.code.Core.TheOpen.{Core-F}
use Rattle.core_code.specs.declared.code.Core.TheViews.{out-Core, roll-Core, roll-out-Core}
use Rattle.core_code.specs.declared.code.Core.TheFolds.{map-Core, fold_out-Core}
use Rattle.core_code.specs.Tree.{Tree}
use Rattle.core_code.specs.View.{tree_step, tree_of}
use Rattle.select_code.specs.Selected.{is_exit, is_nothing, only_of, jump_target, short_turn, Given, single_code, code_of}
use Rattle.select_code.specs.declared.control.Ending.{Ending}

abbrev seen : Core-F Core → Tree
seen l = tree_step (map-Core Core Tree tree_of l)

layer : (c : Core) → seen (out-Core c) ≡ tree_of c
unfolding tree_of
layer c = sym (fold_out-Core Tree tree_step c)

-- an operation whose layer is known
again : (c : Core) (l : Core-F Core) (d : Core) → roll-Core l ≡ d → out-Core c ≡ l → c ≡ d
again c l d rolls e = sym (roll-out-Core c) ∙ ap roll-Core e ∙ rolls

exit_layer : (l : Core-F Core) → ((n : ℕ) → l ≡ Open.Exit n → ⊥) → false ≡ is_exit (seen l)
exit_layer (Open.Set to value) _ = refl
exit_layer (Open.Address to place) _ = refl
exit_layer (Open.Copy to from) _ = refl
exit_layer (Open.Load to pointer count) _ = refl
exit_layer (Open.Store pointer from count) _ = refl
exit_layer (Open.Unary op ty place) _ = refl
exit_layer (Open.Binary op ty to left right) _ = refl
exit_layer (Open.Convert from to place) _ = refl
exit_layer (Open.BitRead to register bit) _ = refl
exit_layer (Open.BitWrite register bit from) _ = refl
exit_layer (Open.Call copy) _ = refl
exit_layer Open.Leave _ = refl
exit_layer (Open.Many parts) _ = refl
exit_layer (Open.If test size holds fails) _ = refl
exit_layer (Open.Loop body) _ = refl
exit_layer (Open.Exit count) h = absurd (h count refl)
exit_layer (Open.Again count) _ = refl

pub no_exit : (c : Core) → ((n : ℕ) → c ≡ Core.Exit n → ⊥) → false ≡ is_exit (tree_of c)
no_exit c h = exit_layer (out-Core c) (λ n e. h n (again c (Open.Exit n) (Core.Exit n) (Core.rolls-Exit n) e)) ∙ ap is_exit (layer c)

list_layer : (l : Core-F Core) → ((parts : _) → l ≡ Open.Many parts → ⊥) → false ≡ is_nothing (seen l)
list_layer (Open.Set to value) _ = refl
list_layer (Open.Address to place) _ = refl
list_layer (Open.Copy to from) _ = refl
list_layer (Open.Load to pointer count) _ = refl
list_layer (Open.Store pointer from count) _ = refl
list_layer (Open.Unary op ty place) _ = refl
list_layer (Open.Binary op ty to left right) _ = refl
list_layer (Open.Convert from to place) _ = refl
list_layer (Open.BitRead to register bit) _ = refl
list_layer (Open.BitWrite register bit from) _ = refl
list_layer (Open.Call copy) _ = refl
list_layer Open.Leave _ = refl
list_layer (Open.Many parts) h = absurd (h parts refl)
list_layer (Open.If test size holds fails) _ = refl
list_layer (Open.Loop body) _ = refl
list_layer (Open.Exit count) _ = refl
list_layer (Open.Again count) _ = refl

pub no_list : (c : Core) → ((parts : _) → c ≡ Core.Many parts → ⊥) → false ≡ is_nothing (tree_of c)
no_list c h = list_layer (out-Core c) (λ v e. h v (again c (Open.Many v) (Core.Many v) (Core.rolls-Many v) e)) ∙ ap is_nothing (layer c)

turn_layer : (l : Core-F Core) → ((parts : _) → l ≡ Open.Many parts → ⊥) → None ≡ short_turn (seen l)
turn_layer (Open.Set to value) _ = refl
turn_layer (Open.Address to place) _ = refl
turn_layer (Open.Copy to from) _ = refl
turn_layer (Open.Load to pointer count) _ = refl
turn_layer (Open.Store pointer from count) _ = refl
turn_layer (Open.Unary op ty place) _ = refl
turn_layer (Open.Binary op ty to left right) _ = refl
turn_layer (Open.Convert from to place) _ = refl
turn_layer (Open.BitRead to register bit) _ = refl
turn_layer (Open.BitWrite register bit from) _ = refl
turn_layer (Open.Call copy) _ = refl
turn_layer Open.Leave _ = refl
turn_layer (Open.Many parts) h = absurd (h parts refl)
turn_layer (Open.If test size holds fails) _ = refl
turn_layer (Open.Loop body) _ = refl
turn_layer (Open.Exit count) _ = refl
turn_layer (Open.Again count) _ = refl

pub no_turn : (c : Core) → ((parts : _) → c ≡ Core.Many parts → ⊥) → None ≡ short_turn (tree_of c)
no_turn c h = turn_layer (out-Core c) (λ v e. h v (again c (Open.Many v) (Core.Many v) (Core.rolls-Many v) e)) ∙ ap short_turn (layer c)

jump_layer : (loops : List ℕ) (l : Core-F Core) → ((n : ℕ) → l ≡ Open.Exit n → ⊥) → ((n : ℕ) → l ≡ Open.Again n → ⊥) → None ≡ jump_target loops (seen l)
jump_layer loops (Open.Set to value) _ _ = refl
jump_layer loops (Open.Address to place) _ _ = refl
jump_layer loops (Open.Copy to from) _ _ = refl
jump_layer loops (Open.Load to pointer count) _ _ = refl
jump_layer loops (Open.Store pointer from count) _ _ = refl
jump_layer loops (Open.Unary op ty place) _ _ = refl
jump_layer loops (Open.Binary op ty to left right) _ _ = refl
jump_layer loops (Open.Convert from to place) _ _ = refl
jump_layer loops (Open.BitRead to register bit) _ _ = refl
jump_layer loops (Open.BitWrite register bit from) _ _ = refl
jump_layer loops (Open.Call copy) _ _ = refl
jump_layer loops Open.Leave _ _ = refl
jump_layer loops (Open.Many parts) _ _ = refl
jump_layer loops (Open.If test size holds fails) _ _ = refl
jump_layer loops (Open.Loop body) _ _ = refl
jump_layer loops (Open.Exit count) h _ = absurd (h count refl)
jump_layer loops (Open.Again count) _ h = absurd (h count refl)

pub no_jump : (loops : List ℕ) (c : Core) → ((n : ℕ) → c ≡ Core.Exit n → ⊥) → ((n : ℕ) → c ≡ Core.Again n → ⊥) → None ≡ jump_target loops (tree_of c)
no_jump loops c h k = jump_layer loops (out-Core c) (λ n e. h n (again c (Open.Exit n) (Core.Exit n) (Core.rolls-Exit n) e)) (λ n e. k n (again c (Open.Again n) (Core.Again n) (Core.rolls-Again n) e)) ∙ ap (jump_target loops) (layer c)

single_layer : (w : Given) (e : Ending) (loops : List ℕ) (at : ℕ) (before : List Tree) (l : Core-F Core) → ((parts : _) → l ≡ Open.Many parts → ⊥) → ((test size holds fails : _) → l ≡ Open.If test size holds fails → ⊥) → ((body : _) → l ≡ Open.Loop body → ⊥) → single_code w e loops at before (seen l) ≡ code_of w e loops at before (seen l)
single_layer w e loops at before (Open.Set to value) _ _ _ = refl
single_layer w e loops at before (Open.Address to place) _ _ _ = refl
single_layer w e loops at before (Open.Copy to from) _ _ _ = refl
single_layer w e loops at before (Open.Load to pointer count) _ _ _ = refl
single_layer w e loops at before (Open.Store pointer from count) _ _ _ = refl
single_layer w e loops at before (Open.Unary op ty place) _ _ _ = refl
single_layer w e loops at before (Open.Binary op ty to left right) _ _ _ = refl
single_layer w e loops at before (Open.Convert from to place) _ _ _ = refl
single_layer w e loops at before (Open.BitRead to register bit) _ _ _ = refl
single_layer w e loops at before (Open.BitWrite register bit from) _ _ _ = refl
single_layer w e loops at before (Open.Call copy) _ _ _ = refl
single_layer w e loops at before Open.Leave _ _ _ = refl
single_layer w e loops at before (Open.Many parts) h _ _ = absurd (h parts refl)
single_layer w e loops at before (Open.If test size holds fails) _ h _ = absurd (h test size holds fails refl)
single_layer w e loops at before (Open.Loop body) _ _ h = absurd (h body refl)
single_layer w e loops at before (Open.Exit count) _ _ _ = refl
single_layer w e loops at before (Open.Again count) _ _ _ = refl

pub no_control : (w : Given) (e : Ending) (loops : List ℕ) (at : ℕ) (before : List Tree) (c : Core) → ((parts : _) → c ≡ Core.Many parts → ⊥) → ((test size holds fails : _) → c ≡ Core.If test size holds fails → ⊥) → ((body : _) → c ≡ Core.Loop body → ⊥) → single_code w e loops at before (tree_of c) ≡ code_of w e loops at before (tree_of c)
no_control w e loops at before c h k m =
    ap (single_code w e loops at before) (sym (layer c))
    ∙ single_layer w e loops at before (out-Core c) (λ v q. h v (again c (Open.Many v) (Core.Many v) (Core.rolls-Many v) q)) (λ t s y n q. k t s y n (again c (Open.If t s y n) (Core.If t s y n) (Core.rolls-If t s y n) q)) (λ b q. m b (again c (Open.Loop b) (Core.Loop b) (Core.rolls-Loop b) q))
    ∙ ap (code_of w e loops at before) (layer c)

only_layer : (l : Core-F Core) → ((parts : _) → l ≡ Open.Many parts → ⊥) → seen l ≡ only_of (seen l)
only_layer (Open.Set to value) _ = refl
only_layer (Open.Address to place) _ = refl
only_layer (Open.Copy to from) _ = refl
only_layer (Open.Load to pointer count) _ = refl
only_layer (Open.Store pointer from count) _ = refl
only_layer (Open.Unary op ty place) _ = refl
only_layer (Open.Binary op ty to left right) _ = refl
only_layer (Open.Convert from to place) _ = refl
only_layer (Open.BitRead to register bit) _ = refl
only_layer (Open.BitWrite register bit from) _ = refl
only_layer (Open.Call copy) _ = refl
only_layer Open.Leave _ = refl
only_layer (Open.Many parts) h = absurd (h parts refl)
only_layer (Open.If test size holds fails) _ = refl
only_layer (Open.Loop body) _ = refl
only_layer (Open.Exit count) _ = refl
only_layer (Open.Again count) _ = refl

-- what is no list
pub no_single : (c : Core) → ((v : _) → c ≡ Core.Many v → ⊥) → tree_of c ≡ only_of (tree_of c)
no_single c h = sym (layer c) ∙ only_layer (out-Core c) (λ v e. h v (again c (Open.Many v) (Core.Many v) (Core.rolls-Many v) e)) ∙ ap only_of (layer c)
