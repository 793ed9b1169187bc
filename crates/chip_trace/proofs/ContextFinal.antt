-- The theorems of what the handler's runs leave of main.
use Rattle.std.proofs.Common.{◌≡◌, ℕ, ◌<◌, Bool, List, Option, Some, refl, ap, ◌∙◌, ◌/◌, ◌%◌}
use Rattle.std.specs.List.{All}
use Rattle.pic_chip.specs.Run as chip
use Rattle.pic_chip.specs.Run.{IsStart, moment}
use Rattle.pic_chip.specs.State.{State}
use Rattle.pic_map.specs.declared.Placed.{Placed}
use Rattle.core_code.specs.Bytes.{Held}
use Rattle.sym_code.specs.Effect.{Setting}
use Rattle.sym_code.specs.Machine.{Entry}
use Rattle.sym_code.specs.Programs.{front}
use Rattle.sym_code.specs.declared.code.BlockName.{BlockName}
use Rattle.sym_code.specs.declared.code.BlockName.TheVariants.{Copy}
use Rattle.bank_page.specs.declared.known.Known.{Known}
use Rattle.sym_code.specs.declared.code.SymBlock.{SymBlock}
use Rattle.chip_trace.specs.Arriving.{IsAssembled, IsStarted}
use Rattle.chip_trace.specs.Entries.{begins, memory_at, handler_finds}
use Rattle.chip_trace.specs.Context.{Knows, GivesBack, HoldsSelected, Spares, GoesPast, Returning, HoldingSelected, Sparing, Passing}
use Rattle.chip_trace.proofs.Behind.{comes_behind}
use Rattle.chip_trace.proofs.Final.{throughout}
use Rattle.chip_trace.proofs.Image.{IsImage}
use Rattle.chip_trace.proofs.Moments.{inputs_small}
use Rattle.chip_trace.proofs.Placing.{G, H}
use Rattle.chip_trace.proofs.Relations.{Ground}
use Rattle.chip_trace.proofs.Returned.{context_back, own_back, spared_each, spared_whole}
use Rattle.chip_trace.proofs.Vectors.{hd, only, is_image, main_place}

module _ (blocks : List SymBlock) (at : List ℕ) (placed : Placed) (handler : Option ℕ) (first : List (List Held)) (c : chip.Setting) (start : IsStart c.start) (inputs : All (λ byte. byte < 256) c.inputs) (limit : Bool → ℕ) where
  abbrev g : Setting
  g = G blocks at placed handler c.image c.watch limit

  abbrev h : Ground
  h = H blocks at placed handler c.image c.watch limit

  module _ (a : IsAssembled blocks at placed handler c.image c.watch g) (started : IsStarted g first c) where
    abbrev k : ℕ
    k = hd blocks at placed handler c.image c.watch limit a

    abbrev x : IsImage g h c.image c.inputs k
    x = is_image blocks at placed handler c.image c.watch limit a c.inputs (inputs_small c.inputs inputs)

    abbrev o : (n : ℕ) → g.program.handler ≡ Some n → g.program.handler ≡ Some k
    o = only blocks at placed handler c.image c.watch limit a

    abbrev m : h.place (front g.program (Copy 0)) ≡ c.watch.main
    m = main_place blocks at placed handler c.image c.watch limit a

    module _ (n : ℕ) where
      abbrev e : Entry
      e = handler_finds g c started.at n

      back : GivesBack g c e (begins c started.at) (memory_at c started.at) n
      back = record {
        context = λ running from to run le. context_back g h c k x refl a.ranges start o m first started n running from to run le;
        own = λ running from to run le. own_back g h c k x refl a.ranges start o m first started n running from to run le;
      }

      -- what is known of bits that are the same
      known_again : (pages : BlockName → ℕ) (k s : State) → s.bank ≡ k.bank → s.pclath ≡ k.pclath → (known : Known) → Knows pages known k → Knows pages known s
      known_again pages k s bank pclath known x = record {
        rp0 = λ b e. ap (λ z. z % 2) bank ∙ x.rp0 b e;
        rp1 = λ b e. ap (λ z. z / 2 % 2) bank ∙ x.rp1 b e;
        low = λ n e. ap (λ z. z / 8 % 2) pclath ∙ x.low n e;
        high = λ n e. ap (λ z. z / 8 / 2 % 2) pclath ∙ x.high n e;
      }

      selected : HoldsSelected g c e (begins c started.at) (memory_at c started.at) n
      selected running from to run le =
          let y = (back.context running from to run le).registers in
          record { bank = y.bank; pclath = y.pclath; facts = known_again g.page_of (moment c from).state (moment c to).state y.bank y.pclath }

      spared : Spares g c e (begins c started.at) (memory_at c started.at) n
      spared = record {
        each = λ running j b lt met on q. spared_each g h c k x refl a.ranges start o m first started n running j b lt met on q;
        whole = λ running from to b run le q. spared_whole g h c k x refl a.ranges start o m first started n running from to run le b q;
      }

      past : GoesPast g c e (begins c started.at) (memory_at c started.at) n
      past running from to s quiet le before = comes_behind g h c k x refl a.ranges start o m first started n running from to quiet le s before

pub returning : Returning
returning = throughout GivesBack back

pub holding_selected : HoldingSelected
holding_selected = throughout HoldsSelected selected

pub sparing : Sparing
sparing = throughout Spares spared

pub passing : Passing
passing = throughout GoesPast past
