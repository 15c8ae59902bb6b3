-- The names of a counted unit are spelled.
use Rattle.std.proofs.Common.{◌≤◌, List, [], ◌++◌, arith, length-append}
use Rattle.c_rules.specs.Units.{File}
use Rattle.c_meaning.specs.Objects.{Object, globals_in, owned_in}
use Rattle.lowering_layout.specs.DeclaredLaws.{entries_agree}
use Rattle.lowering_layout.specs.ListLaws.{each_when, each_joined, apart_joined}
use Rattle.lowering_layout.specs.Texts.{IsIdentifier}
use Rattle.lowering_layout.specs.Spelled.{ObjectIsNamed, OfOtherTokens}
use Rattle.c_rules.specs.SpelledUnits.{Shallow, all_frames_of}
use Rattle.c_limits.proofs.NameTokens.{Lies, Both}
use Rattle.c_limits.proofs.Objects.{both_rows, few_objects, functions_named}
use Rattle.c_limits.proofs.Calls.{mirrors_nothing}
use Rattle.c_limits.proofs.Given.{few_calls, calls_counted}
use Rattle.c_limits.specs.Counted.{CountedUnitsHaveSpelledNames, CountedUnitsHaveFewFrames}

pub names_spelled : CountedUnitsHaveSpelledNames
names_spelled unit counted stands =
    let file : File = record { scope = []; made = [] } in
    let gs : List Object = globals_in unit.words unit.externals in
    let os : List Object = owned_in unit.words 0 unit.externals in
    let both : Both unit.words IsIdentifier 0 counted.last gs os = both_rows unit.words IsIdentifier Shallow 0 0 counted.last unit.externals counted.tokens counted.stand in
    let few : all_frames_of unit.words [] unit.externals ≤ 256 = counted.frames in
    record {
      functions = functions_named unit.words IsIdentifier Shallow file unit.externals counted.stand;
      objects = each_when (Lies unit.words IsIdentifier 0 counted.last) (ObjectIsNamed unit.words) (gs ++ os) (λ o lies. lies.2)
          (each_joined (Lies unit.words IsIdentifier 0 counted.last) gs os both.globals.lie both.owned.lie);
      tokens = apart_joined OfOtherTokens gs os both.globals.apart both.owned.apart both.across_both;
      few = omega (arith, length-append gs os, few_objects unit.words IsIdentifier Shallow 0 [] unit.externals);
      few_calls = few_calls unit file unit.externals [] stands (mirrors_nothing unit.words) (entries_agree unit stands) few;
    }

pub frames_few : CountedUnitsHaveFewFrames
frames_few unit counted stands =
    let file : File = record { scope = []; made = [] } in
    let gs : List Object = globals_in unit.words unit.externals in
    let os : List Object = owned_in unit.words 0 unit.externals in
    let few : all_frames_of unit.words [] unit.externals ≤ 256 = counted.frames in
    omega (arith, few, length-append gs os, calls_counted unit file unit.externals [] 0 stands (mirrors_nothing unit.words) (entries_agree unit stands) counted.stand)
