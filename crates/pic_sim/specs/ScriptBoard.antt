-- What a board that follows a script keeps.
use Rattle.std.specs.Prelude.{ℕ, ◌-◌, min}
use Rattle.std.specs.Vec.{vec_len, vec_capacity}
use Rattle.pic_sim.specs.Board.{Lists, Followed, followed}
use Rattle.pic_sim.specs.declared.script_board.ScriptBoard.{ScriptBoard}

abbrev pub lists_of : ScriptBoard → Lists
lists_of board = record { given = board.given.items; taken = board.taken.items; raised = board.raised.items }

abbrev pub script_of : ScriptBoard → Followed
script_of board = followed board.script

-- the least number of entries that one of its lists has space for
abbrev pub space : ScriptBoard → ℕ
space board =
    min (vec_capacity board.given - vec_len board.given) (min (vec_capacity board.taken - vec_len board.taken) (vec_capacity board.raised - vec_len board.raised))
