-- By the law.
use Rattle.cache_analysis.proofs.SoundLemmas.{sound_for}
use Rattle.cache_analysis.proofs.laws.sound_lines_are_sound_for_the_program.Goals as goal

pub returns : goal.returns
returns c = sound_for (record {
  expands = c.graphs_are_expansions.ensures;
  along = c.a_step_leads_along_an_edge.ensures.along;
  kept = c.a_step_leads_along_an_edge.ensures.kept;
  found = c.active_frames_follow_the_call_path.ensures.found;
  inputs = c.active_frames_follow_the_call_path.ensures.inputs;
})
