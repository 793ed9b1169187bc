use Rattle.std.proofs.Common.{map}
use Rattle.c_typed.specs.Views.{program_of}
use Rattle.call_graph.specs.Rows.{rows_of}
use Rattle.pic_map.specs.MapView.{object_of, frame_of}
use Rattle.ram_place.proofs.Standing.{next_told}
use Rattle.ram_place.proofs.placing.next_frame.Goals as goal

pub returns : goal.returns
returns c = next_told c.args.top (program_of c.args.p.now) (map object_of c.args.objects.now.lines.items) c.args.list.now (map frame_of c.args.frames.now) c.args.copy (rows_of c.args.graph.now.rows.items) c.args.graph.now.functions c.take_live.new.taken.marks c.args.objects.now.taken.marks c.requires.graph.1 c.requires.graph.0 c.requires.objects c.in_ok-take_live.ensures c.frame_line.result c.frame_line.ensures
