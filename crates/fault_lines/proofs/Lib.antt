-- Lines and their statements.
pub mod LineOne
pub mod LinesGrow
pub mod Said
pub mod Files
-- The first line at fault is that of the first statement at fault.
pub mod Ties
-- 12 to 18.
pub mod Places
pub mod RndfFaults
pub mod MissionOrder
pub mod MissionFaults
pub mod MdfFaults
