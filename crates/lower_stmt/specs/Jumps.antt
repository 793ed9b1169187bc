-- Where `break` and `continue` lead to, as numbers of loops of the code (ISO/IEC 9899:1990, 6.6.6.2 and 6.6.6.3).
use Rattle.std.specs.Prelude.{ℕ, ◌+◌, ◌*◌, ◌^◌, ◌≤◌, true, false}
use Rattle.lower_stmt.specs.declared.jumps.Jumps.{Jumps}

-- the body of a function, in which neither stands
abbrev pub outside : Jumps
outside = record { leave = 0; turn = 0; again = false }

-- the body of a `while`, which stands at the end of the loop
abbrev pub in_while : Jumps
in_while = record { leave = 0; turn = 0; again = true }

-- The body of a `do` or a `for`, which stands in a loop of its own: `continue` leaves that one, and `break` the loop round it.
abbrev pub in_body : Jumps
in_body = record { leave = 1; turn = 0; again = false }

-- A segment of a switch with so many segments behind it, each of which is a loop round it.
abbrev pub in_segment : Jumps → ℕ → Jumps
in_segment j behind = record { leave = behind; turn = j.turn + (behind + 1); again = j.again }

-- The numbers of loops fit below a part with so many nodes. Round a statement of a switch stand at most a loop for each case
-- and two more, and so no more than two for each node of the switch.
abbrev pub HasRoom : Jumps → ℕ → Type 0
HasRoom j nodes = j.turn + 2 * nodes ≤ 2 ^ 32
