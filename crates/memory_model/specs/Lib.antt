-- The files of this folder.
-- The files here, each after those that it cites.
pub mod HeldFrames
pub mod SlotStores
pub mod HeldMemories
pub mod MemoryOrders
pub mod KeptMemories
pub mod Made
pub mod Within
pub mod KeptMemoryWords
pub mod ReadOffLaws
pub mod KeptMemoryLaws
pub mod SeenOrders
pub mod SeenOrderLaws
