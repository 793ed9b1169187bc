use Rattle.std.proofs.Common.{◌≡◌, ◌++◌, length, map}
use Rattle.c_typed.specs.Views.{function_of, size_of}
use Rattle.pic_map.specs.MapView.{frame_of}
use Rattle.src_memory.specs.Start.{all_frames, seen_frames}
use Rattle.src_memory.proofs.start.frames_in.Given as goal

abbrev pub invariant-loop-functions : goal.invariant-loop-functions
invariant-loop-functions l = seen_frames l.cells.items ++ all_frames (map size_of l.structures) (map frame_of l.frames) l.root (map function_of l.functions) ≡ all_frames (map size_of l.structures) (map frame_of l.frames) l.root (map function_of l.initial.functions)

abbrev pub decreases-loop-functions : goal.decreases-loop-functions
decreases-loop-functions l = length l.functions
