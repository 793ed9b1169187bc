-- What becomes of one instruction.
use Rattle.std.specs.Prelude.{◌≡◌, ℕ, ◌/◌, ◌%◌, nat_eq, Bool, true, false, ◌||◌, List, [], ◌∷◌, ◌++◌, Option, Some, None, if◌then◌else◌}
use Rattle.pic_map.specs.declared.Placed.{Placed}
use Rattle.sym_code.specs.declared.code.BankBit.TheVariants as bank_bits
use Rattle.sym_code.specs.declared.code.BlockName.{BlockName}
use Rattle.sym_code.specs.declared.code.PageBit.TheVariants as page_bits
use Rattle.sym_code.specs.declared.code.Sym.{Sym}
use Rattle.sym_code.specs.declared.code.Sym.TheVariants as syms
use Rattle.sym_code.specs.declared.code.Target.{Target}
use Rattle.sym_code.specs.Selects.{is_select}
use Rattle.bank_page.specs.Kinds.{is_label, is_skip}
use Rattle.bank_page.specs.Known.{after, knows, learned}
use Rattle.bank_page.specs.Needs.{needs_in}
use Rattle.bank_page.specs.declared.known.Known.{Known}
use Rattle.bank_page.specs.declared.needs.Needs.{Needs}
use Rattle.bank_page.specs.declared.selecting.State.{State}

-- RP0 and RP1 of a bank
abbrev pub rp0_of : ℕ → Bool
rp0_of bank = nat_eq (bank % 2) 1

abbrev pub rp1_of : ℕ → Bool
rp1_of bank = nat_eq (bank / 2 % 2) 1

-- all selects of a bank, and of the page of a target
abbrev pub bank_selects : Option ℕ → List Sym
bank_selects None = []
bank_selects (Some bank) = syms.SelectBank bank_bits.Rp1 (rp1_of bank) ∷ syms.SelectBank bank_bits.Rp0 (rp0_of bank) ∷ []

abbrev pub page_selects : Option Target → List Sym
page_selects None = []
page_selects (Some target) = syms.SelectPage page_bits.High target ∷ syms.SelectPage page_bits.Low target ∷ []

-- a select, where it sets what isn't known to be so
abbrev pub unknown : BlockName → Known → Sym → List Sym
unknown own known s = if knows own known s then [] else s ∷ []

-- those of some selects that do, and what is known behind all
abbrev pub missing : BlockName → Known → List Sym → List Sym
missing own known [] = []
missing own known (s ∷ list) = unknown own known s ++ missing own (learned own known s) list

abbrev pub behind_selects : BlockName → Known → List Sym → Known
behind_selects own known [] = known
behind_selects own known (s ∷ list) = behind_selects own (learned own known s) list

abbrev pub behind_bank : BlockName → Known → Needs → Known
behind_bank own known needs = behind_selects own known (bank_selects needs.bank)

abbrev pub missing_for : BlockName → Known → Needs → List Sym
missing_for own known needs = missing own known (bank_selects needs.bank) ++ missing own (behind_bank own known needs) (page_selects needs.page)

abbrev pub known_with : BlockName → Known → Needs → Known
known_with own known needs = behind_selects own (behind_bank own known needs) (page_selects needs.page)

abbrev pub passed : Known → Sym → Bool → State
passed known s behind = record { known = after known s behind; behind = is_skip s }

abbrev pub NextFor : Bool → Bool → BlockName → State → Sym → Option Needs → List Sym → List Sym → State → Type 0
NextFor true b own st s needs old new next = (new ≡ old) × (next ≡ st)
NextFor false true own st s needs old new next = (new ≡ old ++ s ∷ []) × (next ≡ passed st.known s st.behind)
NextFor false false own st s None old new next = ⊥
NextFor false false own st s (Some needs) old new next = (new ≡ old ++ missing_for own st.known needs ++ s ∷ []) × (next ≡ passed (known_with own st.known needs) s false)

-- A select is left out. Behind a skip, and at a label, only the instruction itself is put; elsewhere what it needs before it.
abbrev pub Next : Placed → BlockName → State → Sym → List Sym → List Sym → List Sym → State → Type 0
Next placed own st s list old new next = NextFor (is_select s) (st.behind || is_label s) own st s (needs_in placed list) old new next

-- ---- a whole list
-- what is put for the first instruction of a list, and what is known behind it; `plain` says that it is put alone
abbrev pub put_of : Bool → Bool → BlockName → State → Sym → Option Needs → List Sym
put_of true plain own st s needs = []
put_of false true own st s needs = s ∷ []
put_of false false own st s None = s ∷ []
put_of false false own st s (Some needs) = missing_for own st.known needs ++ s ∷ []

abbrev pub state_of : Bool → Bool → BlockName → State → Sym → Option Needs → State
state_of true plain own st s needs = st
state_of false true own st s needs = passed st.known s st.behind
state_of false false own st s None = passed st.known s false
state_of false false own st s (Some needs) = passed (known_with own st.known needs) s false

-- what becomes of a list, where this is known before it
abbrev pub selected_from : Placed → BlockName → State → List Sym → List Sym
selected_from placed own st [] = []
selected_from placed own st (s ∷ rest) =
    put_of (is_select s) (st.behind || is_label s) own st s (needs_in placed (s ∷ rest))
    ++ selected_from placed own (state_of (is_select s) (st.behind || is_label s) own st s (needs_in placed (s ∷ rest))) rest
