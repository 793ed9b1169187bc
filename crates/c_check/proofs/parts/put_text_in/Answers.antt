use Rattle.c_nodes.specs.Words.{quoted}
use Rattle.c_tables.specs.Tables.{known_of}
use Rattle.c_outline.specs.Slots.{begun_of, slot_of}
use Rattle.c_check.proofs.Beginning.{text_some, text_none}
use Rattle.c_check.proofs.parts.put_text_in.Goals as goal

pub returns-in_ok-bytes-in-Some : goal.returns-in_ok-bytes-in-Some
returns-in_ok-bytes-in-Some c =
    let known = known_of c.args.checker.now in
    text_some (λ _. begun_of c.put_characters.new.sink) c.put_characters.result known (slot_of c.args.slot) c.args.inside (quoted c.args.text.now) (begun_of c.args.sink.now) c.char_array.result c.in-Some.length c.in_ok-bytes-in-Some.bytes.items c.deref.result.now (c.char_array.ensures known) c.in-Some.is c.in_ok-bytes-in-Some.ensures c.deref.ensures.value (c.put_characters.ensures known)

pub returns-in-None : goal.returns-in-None
returns-in-None c =
    let known = known_of c.args.checker.now in
    text_none (λ _. begun_of c.args.sink.now) c.refused_text.result known (slot_of c.args.slot) c.args.inside (quoted c.args.text.now) (begun_of c.args.sink.now) c.char_array.result (c.char_array.ensures known) c.in-None.is (c.refused_text.ensures known (begun_of c.args.sink.now))
