pub mod Printed
pub mod Ranked
pub mod RankedRows
