-- The code that is made has no more words than the given code, and names nothing else but bytes before others in their frames.
use Rattle.std.specs.Prelude.{◌≡◌, ℕ, ◌≤◌, Bool, true, List}
use Rattle.std.specs.List.{list_all}
use Rattle.sym_code.specs.Words.{words_in}
use Rattle.sym_code.specs.declared.code.Literal.TheVariants.{Number}
use Rattle.sym_code.specs.declared.code.LiteralOperation.{LiteralOperation}
use Rattle.sym_code.specs.declared.code.Sym.{Sym}
use Rattle.sym_code.specs.declared.code.Sym.TheVariants as syms
use Rattle.lean_code.specs.Rows.{FlagName, Row, narrowed, cleared, reads_before, tests_flag, olds, puts}

abbrev pub RowsShrink : Type 0
RowsShrink = (rows : List Row) → words_in (puts rows) ≤ words_in (olds rows)

-- What holds of each instruction of the given code, of each operation on W and a number, of an instruction wherever its result goes, of the
-- clearing of a byte in which W may be stored, of a byte before one of the same frame, and of a flag that is tested in its place, holds of each that is made: that its operand is among so
-- many bytes, that its bit is one, that its target is there.
abbrev pub RowsKeep : Type 0
RowsKeep =
    (test : Sym → Bool) (rows : List Row) → ((op : LiteralOperation) (n : ℕ) → test (syms.Literal op (Number n)) ≡ true) → ((s : Sym) → test s ≡ true → test (narrowed s) ≡ true) → ((s : Sym) → test s ≡ true → test (cleared s) ≡ true) → ((n : ℕ) (s : Sym) → test s ≡ true → test (reads_before n s) ≡ true) → ((flag : FlagName) (turned : Bool) (s : Sym) → test s ≡ true → test (tests_flag flag turned s) ≡ true) → list_all test (olds rows) ≡ true → list_all test (puts rows) ≡ true
