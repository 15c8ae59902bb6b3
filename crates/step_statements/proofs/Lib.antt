mod FoundLaws
mod TypedLaws
mod RoomLaws
mod CallLaws
