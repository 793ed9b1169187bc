-- Code with its selects follows the code without them.
use Rattle.std.proofs.Common.{◌≡◌, ℕ, suc, Bool, true, false, ◌&&◌, List, [], ◌∷◌, All, Option, refl, sym, ap, ◌∙◌, subst, arith}
use Rattle.std.proofs.Math.Path.{fun_ext}
use Rattle.std.proofs.lemmas.List.Elements.{All-nil, All-cons}
use Rattle.pic_map.specs.declared.Placed.{Placed}
use Rattle.sym_code.specs.Effect.{Setting}
use Rattle.sym_code.specs.Programs.{Program, block_in, no_tables}
use Rattle.sym_code.specs.Registers.{Spoiled}
use Rattle.sym_code.specs.declared.code.BlockName.{BlockName}
use Rattle.sym_code.specs.declared.code.Sym.{Sym}
use Rattle.sym_code.specs.declared.code.SymBlock.{SymBlock}
use Rattle.code_place.specs.Layouts.{layout_of, page_of}
use Rattle.bank_page.specs.Known.{nothing}
use Rattle.bank_page.specs.Links.{HasSelects, SelectsKeep, Chooses}
use Rattle.bank_page.specs.Selected as plain
use Rattle.flow_facts.specs.Facts.{Facts, unknown}
use Rattle.flow_facts.specs.Links.{HasFlow, FlowsKeep}
use Rattle.flow_facts.specs.Walk.{all_lead, is_open, is_open_at, Reaches}
use Rattle.flow_facts.proofs.Along.{right_whole}
use Rattle.flow_facts.proofs.Plain.{unknown_consistent}
use Rattle.bank_trace.proofs.Holding.{both_first, both_last}
use Rattle.bank_trace.proofs.Sites.{Site, IsSound, plain_setting, banked_setting}
use Rattle.bank_trace.proofs.Premises.{page_within, named_at, near_at, apart_at, reaches_at, lead_at}
use Rattle.bank_trace.proofs.Following.{follows, slow}

keeps : (x : Site) → IsSound x → SelectsKeep (plain_setting x) (banked_setting x)
keeps x sound o e r m entries fits n goes = (follows x sound e o r m n goes, slow x sound e o r m n goes)

module _ (given made : List SymBlock) (handler : Option ℕ) (placed : Placed) (at : List ℕ) (facts : Facts) (g h : Setting) (has : HasFlow given made handler placed at facts g h) where
  abbrev site : Site
  site = record { made = block_in made; handler = handler; placed = placed; pages = page_of made at; other = g.page_of; limit = g.limit; tables = no_tables; leaves = g.leaves; facts = facts }

  later : (is_open_at facts handler && all_lead facts made) ≡ true
  later = both_last (is_open facts 0) (is_open_at facts handler && all_lead facts made) has.consistent

  sound : IsSound site
  sound = record {
    pages = page_within made at has.fit;
    apart = apart_at made has.apart;
    mates = has.mates;
    reaches = reaches_at placed facts made has.reaches;
    lead = lead_at facts made (both_last (is_open_at facts handler) (all_lead facts made) later);
    main = both_first (is_open facts 0) (is_open_at facts handler && all_lead facts made) has.consistent;
    entry = both_first (is_open_at facts handler) (all_lead facts made) later;
    named = named_at placed made at has.fit has.named;
    near = near_at placed made has.near;
  }

  given_setting : plain_setting site ≡ g
  given_setting =
      let f : Program → Bool → Setting = λ p b. record { program = p; banked = b; page_of = g.page_of; limit = g.limit; leaves = g.leaves } in
      let q : (BlockName → List Sym) → Program = λ block. record { block = block; handler = handler; layout = layout_of placed; tables = no_tables } in
      ap (λ (block : BlockName → List Sym). f (q block) false) (fun_ext has.same) ∙ ap (λ (p : Program). f p false) (sym has.given_code) ∙ ap (f g.program) (sym has.without)

  made_setting : banked_setting site ≡ h
  made_setting =
      let f : Program → Bool → (BlockName → ℕ) → (Bool → ℕ) → (ℕ → ℕ → Spoiled) → Setting =
      λ p b page limit leaves. record { program = p; banked = b; page_of = page; limit = limit; leaves = leaves } in
      ap (λ (p : Program). f p true (page_of made at) g.limit g.leaves) (sym has.made_code)
      ∙ ap (λ (b : Bool). f h.program b (page_of made at) g.limit g.leaves) (sym has.with)
      ∙ ap (λ (page : BlockName → ℕ). f h.program h.banked page g.limit g.leaves) (sym has.pages)
      ∙ ap (λ (limit : Bool → ℕ). f h.program h.banked h.page_of limit g.leaves) (sym has.limits)
      ∙ ap (f h.program h.banked h.page_of h.limit) (sym has.leaves)

  chosen : SelectsKeep g h
  chosen = subst (λ (s : Setting). SelectsKeep s h) given_setting (subst (λ (s : Setting). SelectsKeep (plain_setting site) s) made_setting (keeps site sound))

pub flows_keep : FlowsKeep
flows_keep = chosen

-- ---- where nothing is known but in straight code
plain_reaches : (placed : Placed) (blocks : List SymBlock) → All (plain.Reaches placed) blocks → All (Reaches placed unknown) blocks
plain_reaches placed [] all = All-nil (Reaches placed unknown)
plain_reaches placed (block ∷ blocks) all =
    All-cons (Reaches placed unknown) block blocks (right_whole unknown block.name placed (unknown.front block.name) false nothing false block.list.items (λ e. e) refl (all 0 block (omega arith)))
    (plain_reaches placed blocks (λ i d l. all (suc i) d (omega arith)))

-- code with selects for all that straight code doesn't know has facts by which nothing is known
pub flows_of : (given made : List SymBlock) (handler : Option ℕ) (placed : Placed) (at : List ℕ) (g h : Setting) → HasSelects given made handler placed at g h → HasFlow given made handler placed at unknown g h
flows_of given made handler placed at g h has = record {
  given_code = has.given_code;
  made_code = has.made_code;
  without = has.without;
  with = has.with;
  pages = has.pages;
  fit = has.fit;
  named = has.named;
  limits = has.limits;
  leaves = has.leaves;
  same = has.same;
  apart = has.apart;
  mates = λ bit name. refl;
  consistent = unknown_consistent handler made;
  reaches = plain_reaches placed made has.reaches;
  near = has.near;
}

pub chooses : Chooses
chooses given made handler placed at g h has = flows_keep given made handler placed at unknown g h (flows_of given made handler placed at g h has)
