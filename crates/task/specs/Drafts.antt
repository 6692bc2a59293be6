-- What a draft says.
use Rattle.std.specs.Prelude.{vec_items}
use Rattle.task.specs.declared.draft.TaskDraft.{TaskDraft}
use Rattle.task.specs.Contents.{TaskContents}
use Rattle.task.specs.Meaning.{parts_contents}

abbrev pub draft_contents : TaskDraft → TaskContents
draft_contents d = parts_contents d.cache (vec_items d.points) (vec_items d.evicting)
