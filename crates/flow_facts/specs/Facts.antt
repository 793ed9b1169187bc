-- What is known of the bits that selects set at places that code comes to from elsewhere: the fronts of blocks, labels, and behind calls.
use Rattle.std.specs.Prelude.{ℕ, ◌≡◌, Bool, true, false, ◌&&◌, Option, Some, None, if◌then◌else◌}
use Rattle.sym_code.specs.Effect.{page_bit}
use Rattle.sym_code.specs.declared.code.BlockName.{BlockName}
use Rattle.sym_code.specs.declared.code.Label.{Label}
use Rattle.sym_code.specs.declared.code.Label.TheVariants as labels
use Rattle.sym_code.specs.declared.code.PageBit.{PageBit}
use Rattle.sym_code.specs.declared.code.Target.{Target}
use Rattle.sym_code.specs.declared.code.Target.TheVariants as targets
use Rattle.bank_page.specs.Known.{nothing, is_bit, is_page}
use Rattle.bank_page.specs.declared.known.Known.{Known}

-- what is known at a place, where anything comes there
abbrev pub Fact : Type 0
Fact = Option Known

pub record Facts : Type 0 where
  -- at the front of a block
  pub front : BlockName → Fact
  -- at the inner label of a number in a block
  pub label : BlockName → ℕ → Fact
  -- where a block returns
  pub back : BlockName → Fact
  -- the block that stands for all those whose pages have the same bit
  pub mate : PageBit → BlockName → BlockName

-- The page of a block has the bit of its mate's.
abbrev pub AreMates : (BlockName → ℕ) → (PageBit → BlockName → BlockName) → Type 0
AreMates pages mate = (bit : PageBit) (name : BlockName) → page_bit bit (pages (mate bit name)) ≡ page_bit bit (pages name)

-- facts by which nothing is known anywhere, and each block stands for itself alone
abbrev pub unknown : Facts
unknown = record { front = λ name. Some nothing; label = λ name n. Some nothing; back = λ name. Some nothing; mate = λ bit name. name }

-- ---- more is known
abbrev pub gives_bit : Option Bool → Option Bool → Bool
gives_bit known None = true
gives_bit known (Some on) = is_bit known on

abbrev pub gives_page : Option BlockName → Option BlockName → Bool
gives_page known None = true
gives_page known (Some block) = is_page known block

abbrev pub gives_known : Known → Known → Bool
gives_known known wanted = gives_bit known.rp0 wanted.rp0 && (gives_bit known.rp1 wanted.rp1 && (gives_page known.low wanted.low && gives_page known.high wanted.high))

-- what is known at one place is enough for another
abbrev pub gives : Fact → Fact → Bool
gives None wanted = true
gives (Some known) None = false
gives (Some known) (Some wanted) = gives_known known wanted

-- ---- what two share
abbrev pub shared_bit : Option Bool → Option Bool → Option Bool
shared_bit known None = None
shared_bit known (Some on) = if is_bit known on then Some on else None

abbrev pub shared_page : Option BlockName → Option BlockName → Option BlockName
shared_page known None = None
shared_page known (Some block) = if is_page known block then Some block else None

abbrev pub shared_known : Known → Known → Known
shared_known a b = record { rp0 = shared_bit a.rp0 b.rp0; rp1 = shared_bit a.rp1 b.rp1; low = shared_page a.low b.low; high = shared_page a.high b.high }

abbrev pub shared : Fact → Fact → Fact
shared None b = b
shared (Some a) None = Some a
shared (Some a) (Some b) = Some (shared_known a b)

-- ---- at what a jump names
-- nothing is known at the labels of the start block
abbrev pub at_label : Facts → BlockName → Label → Fact
at_label f own (labels.Inner n) = f.label own n
at_label f own labels.Halt = Some nothing
at_label f own labels.Restore = Some nothing

abbrev pub at_target : Facts → BlockName → Target → Fact
at_target f own (targets.Block name) = f.front name
at_target f own (targets.Label label) = at_label f own label
