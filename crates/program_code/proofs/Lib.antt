pub mod Bodies
mod Chain
mod Selecting
mod Paying
mod Operations
mod Operators
mod Lowered
mod Puts
mod Rows
mod Typing
mod Nodes
mod Expressions
mod Declared
mod Segments
mod Statements
pub mod Naming
mod Lying
mod Rooms
mod Standing
mod Within
mod Inside
mod StatementBytes
mod Others
mod Devices
mod Callees
mod Copied
pub mod Placed
pub mod There
pub mod Nearby
pub mod Routines
pub mod Starting
pub mod StatedWords
pub mod LeanerBlocks
mod NamedTargets
mod TargetMembers
mod OperationTargets
mod ControlTargets
mod RoutineTargets
mod StartTargets
mod SelectedTargets
mod LeanerTargets
pub mod PlacedTargets
mod RowTargets
mod ExpressionTargets
mod StatementTargets
mod LoweredTargets
mod NarrowedTargets
mod JoinedTargets
pub mod AllTargets
mod ListSkips
mod ReadySkips
mod RowSkips
mod BodySkips
mod StartSkips
mod PutSkips
mod ExpressionSkips
mod StatementSkips
mod SkipMembers
mod BlockSkips
mod PlacedSkips
pub mod AllSkips
