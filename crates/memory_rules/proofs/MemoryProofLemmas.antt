-- Laws of memory proofs.
use Rattle.alf_ops.specs.Histories.{put}
use Rattle.memory_rules.specs.ValueSets.{ValueSets, IsValueSets}
use Rattle.memory_rules.specs.Frames.{strong, pinned, load_results}
use Rattle.memory_rules.specs.MemoryLaws.{PinSized, LoadGathers, StoreSharp, PinCovers, PinSharp}
use Rattle.memory_rules.specs.HoldLaws.{holds, covers}
use Rattle.memory_rules.specs.UpdateLaws.{strong_holds, pinned_holds, strong_sized, pinned_sized}
use Rattle.memory_rules.specs.GatheredLaws.{results_sized, gathered_all, gathered_all_only}
use Rattle.memory_rules.specs.SharpFrameLaws.{strong_sharp, pinned_sharp}

module _ (d : ValueSets) (laws : IsValueSets d) where
  pub load_gathers : LoadGathers d
  load_gathers m offset size r sized is =
      let sizes = results_sized d laws m sized offset size is in
      (gathered_all d laws size (load_results d m offset size) sizes r, gathered_all_only d laws size (load_results d m offset size) sizes r)

  pub sharp_store : StoreSharp d
  sharp_store bits m from offset size set value table sized sharp is set_sized only fits =
      strong_sharp d laws bits m from offset size set value sharp
      (covers d laws bits (strong d m offset size set) (put offset size value from) (strong_sized d laws m offset size set is sized set_sized) table
      (strong_holds d laws bits m from (holds d laws bits m from sharp.covers) offset size set is set_sized value only.0 fits))
      is set_sized only fits

  pub pin_covers : PinCovers d
  pin_covers bits m from offset size set value table sized c is set_sized gives in_set =
      covers d laws bits (pinned d m offset size set) from (pinned_sized d laws m offset size set sized set_sized) table
      (pinned_holds d laws bits m from (holds d laws bits m from c) offset size set is set_sized value gives in_set)

  pub sharp_pin : PinSharp d
  sharp_pin bits m from offset size set value table sized sharp is set_sized gives only =
      pinned_sharp d laws bits m from offset size set value sharp (pin_covers bits m from offset size set value table sized sharp.covers is set_sized gives only.0) gives only

  pub pin_sized : PinSized d
  pin_sized m offset size set sized set_sized = pinned_sized d laws m offset size set sized set_sized
