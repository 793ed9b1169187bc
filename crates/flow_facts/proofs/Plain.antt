-- Facts by which nothing is known are consistent.
use Rattle.std.proofs.Common.{◌≡◌, ℕ, Bool, true, false, ◌&&◌, List, [], ◌∷◌, Option, Some, None, slice_get, refl, ap, ◌∙◌}
use Rattle.sym_code.specs.declared.code.BlockName.{BlockName}
use Rattle.sym_code.specs.declared.code.BlockName.TheVariants as names
use Rattle.sym_code.specs.declared.code.Label.TheVariants as labels
use Rattle.sym_code.specs.declared.code.Sym.{Sym}
use Rattle.sym_code.specs.declared.code.Sym.TheVariants as syms
use Rattle.sym_code.specs.declared.code.SymBlock.{SymBlock}
use Rattle.sym_code.specs.declared.code.Target.{Target}
use Rattle.sym_code.specs.declared.code.Target.TheVariants as targets
use Rattle.bank_page.specs.Known.{nothing, is_return, is_retlw}
use Rattle.bank_page.specs.declared.known.Known.{Known}
use Rattle.flow_facts.specs.Facts.{Fact, Facts, unknown, gives, at_label, at_target}
use Rattle.flow_facts.specs.Walk.{fact_after, behind_after, all_hold, leaves, returns, leads, all_lead, is_open_at, is_consistent}
use Rattle.flow_facts.specs.Stored.{front_of, label_of, back_of, of_block, facts_of}
use Rattle.flow_facts.specs.declared.facts.BlockFacts.{BlockFacts}
use Rattle.flow_facts.specs.declared.facts.FlowFacts.{FlowFacts}

-- facts of which each says nothing
pub record AreUnknown (f : Facts) : Type 0 where
  pub front : (name : BlockName) → f.front name ≡ Some nothing
  pub label : (name : BlockName) (number : ℕ) → f.label name number ≡ Some nothing
  pub back : (name : BlockName) → f.back name ≡ Some nothing

pub gives_nothing : (fact : Fact) → gives fact (Some nothing) ≡ true
gives_nothing None = refl
gives_nothing (Some known) = refl

gives_this : (fact wanted : Fact) → wanted ≡ Some nothing → gives fact wanted ≡ true
gives_this fact wanted is = ap (gives fact) is ∙ gives_nothing fact

module _ (f : Facts) (none : AreUnknown f) where
  target_none : (own : BlockName) (target : Target) → at_target f own target ≡ Some nothing
  target_none own (targets.Block name) = none.front name
  target_none own (targets.Label (labels.Inner number)) = none.label own number
  target_none own (targets.Label labels.Halt) = refl
  target_none own (targets.Label labels.Restore) = refl

  returns_none : (own : BlockName) (known : Known) (does : Bool) → returns f own known does ≡ true
  returns_none own known true = gives_this (Some known) (f.back own) (none.back own)
  returns_none own known false = refl

  leaves_none : (own : BlockName) (target : Target) → leaves f own target ≡ true
  leaves_none own (targets.Block name) = gives_this (f.back name) (f.back own) (none.back own)
  leaves_none own (targets.Label label) = refl

  leads_none : (own : BlockName) (known : Known) (s : Sym) → leads f own known s ≡ true
  leads_none own known (syms.Label label) = gives_this (Some known) (at_label f own label) (target_none own (targets.Label label))
  leads_none own known (syms.Call target) = gives_this (Some known) (at_target f own target) (target_none own target)
  leads_none own known (syms.Goto target) = ap (λ (b : Bool). b && leaves f own target) (gives_this (Some known) (at_target f own target) (target_none own target)) ∙ leaves_none own target
  leads_none own known (syms.Plain op) = returns_none own known (is_return op)
  leads_none own known (syms.Literal op value) = returns_none own known (is_retlw op)
  leads_none own known (syms.File op file into) = refl
  leads_none own known (syms.Movwf file) = refl
  leads_none own known (syms.Clrf file) = refl
  leads_none own known (syms.Bit op file bit) = refl
  leads_none own known (syms.SelectBank bit on) = refl
  leads_none own known (syms.SelectPage bit target) = refl
  leads_none own known (syms.Table table root) = refl

  hold_none : (own : BlockName) (fact : Fact) (behind : Bool) (list : List Sym) → all_hold (leads f own) f own fact behind list ≡ true
  hold_none own fact behind [] = refl
  hold_none own None behind (s ∷ list) = hold_none own (fact_after f own None behind s) (behind_after behind s) list
  hold_none own (Some known) behind (s ∷ list) =
      ap (λ (b : Bool). b && all_hold (leads f own) f own (fact_after f own (Some known) behind s) (behind_after behind s) list) (leads_none own known s)
      ∙ hold_none own (fact_after f own (Some known) behind s) (behind_after behind s) list

  all_none : (blocks : List SymBlock) → all_lead f blocks ≡ true
  all_none [] = refl
  all_none (block ∷ blocks) = ap (λ (b : Bool). b && all_lead f blocks) (hold_none block.name (f.front block.name) false block.list.items) ∙ all_none blocks

  open_none : (handler : Option ℕ) → is_open_at f handler ≡ true
  open_none None = refl
  open_none (Some copy) = gives_this (Some nothing) (f.front (names.Copy copy)) (none.front (names.Copy copy))

  pub consistent_none : (handler : Option ℕ) (blocks : List SymBlock) → is_consistent f handler blocks ≡ true
  consistent_none handler blocks =
      ap (λ (b : Bool). b && (is_open_at f handler && all_lead f blocks)) (gives_this (Some nothing) (f.front (names.Copy 0)) (none.front (names.Copy 0)))
      ∙ ap (λ (b : Bool). b && all_lead f blocks) (open_none handler) ∙ all_none blocks

pub unknown_none : AreUnknown unknown
unknown_none = record { front = λ name. refl; label = λ name number. refl; back = λ name. refl }

pub unknown_consistent : (handler : Option ℕ) (blocks : List SymBlock) → is_consistent unknown handler blocks ≡ true
unknown_consistent handler blocks = consistent_none unknown unknown_none handler blocks

-- ---- as the code keeps them
no_block : (f : FlowFacts) → f.copies.items ≡ [] → (name : BlockName) → of_block f name ≡ None
no_block f none names.Start = refl
no_block f none (names.Copy copy) = ap (λ (list : List BlockFacts). slice_get list copy) none

pub none_consistent : (f : FlowFacts) → f.copies.items ≡ [] → (handler : Option ℕ) (blocks : List SymBlock) → is_consistent (facts_of f) handler blocks ≡ true
none_consistent f none handler blocks =
    consistent_none (facts_of f)
    (record { front = λ name. ap front_of (no_block f none name); label = λ name number. ap (λ (o : Option BlockFacts). label_of o number) (no_block f none name); back = λ name. ap back_of (no_block f none name) })
    handler blocks
