mod PageLists
mod SlotCells
mod SameSlots
mod EightBits
